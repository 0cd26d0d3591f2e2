-- Numbers read as literals, one after the other.
use Rattle.std.proofs.Common.{◌≡◌, ℕ, zero, suc, ◌+◌, ◌<◌, ◌≤◌, Bool, true, false, cond, eqb, ◌⊎◌, List, [], ◌∷◌, ◌++◌, length, get_or, take, ℤ, pos, Some, None, Decides, sym, refl, ap, ◌∙◌, subst, ap₂, inl, inr, ⊎_elim, arith, take_all}
use Rattle.std.proofs.lemmas.List.{take_more}
use Rattle.std.proofs.lemmas.Bool.{eqb-false, or_left, or_right, or_from, or_parts, le-ltb, both_ways}
use Rattle.literals.specs.declared.literal.Literal.{Literal}
use Rattle.literals.specs.declared.setting.Setting.{Setting}
use Rattle.literals.specs.declared.refusal.Refusal.{Refusal}
use Rattle.literals.specs.declared.refusal.Refusal.TheVariants.{OutOfRange, TermCount}
use Rattle.literals.specs.Literals.{number, no_literal}
use Rattle.literals.specs.Refusals.{first_failed}
use Rattle.literals.specs.Settings.{stands, plus, nothing}
use Rattle.literals.proofs.Known.{number_same}
use Rattle.literals.proofs.Standing.{nothing-stands, plus_cases, plus-has, plus_keeps}
use Rattle.literals.proofs.Refused.{by_check, past-check}
use Rattle.lists.specs.Lists.{some_outside, wrong_length, read_checks, ◌∈◌, Collects}

outside_at : (ns : List ℤ) (i : ℕ) → i < length ns → no_literal (get_or ns i (pos 0)) ≡ true → some_outside ns ≡ true
outside_at [] i lt h = absurd (omega arith)
outside_at (m ∷ ns) zero lt h = or_left _ _ h
outside_at (m ∷ ns) (suc i) lt h = or_right _ _ (outside_at ns i (omega arith) h)

inside_push : (ns : List ℤ) (n : ℤ) → some_outside ns ≡ false → no_literal n ≡ false → some_outside (ns ++ n ∷ []) ≡ false
inside_push [] n h k = or_from _ _ k refl
inside_push (m ∷ ns) n h k = let both = or_parts (no_literal m) (some_outside ns) h in or_from _ _ both.0 (inside_push ns n both.1 k)

module _ (ns : List ℤ) (i : ℕ) (n : ℤ) (lt : i < length ns) (is : n ≡ get_or ns i (pos 0)) where
  -- number i is that of no literal
  pub outside_here : (e : Refusal) → Some e ≡ cond (no_literal n) (Some OutOfRange) None → (some_outside ns ≡ true) × (e ≡ OutOfRange)
  outside_here e r = let here = by_check (no_literal n) OutOfRange e r in (outside_at ns i lt (ap no_literal (sym is) ∙ here.0), here.1)

  -- number i is that of a literal
  pub inside_more : None ≡ cond (no_literal n) (Some OutOfRange) None → some_outside (take i ns) ≡ false → some_outside (take (i + 1) ns) ≡ false
  inside_more r inside =
      ap some_outside (take_more ns i (pos 0) lt)
      ∙ inside_push (take i ns) (get_or ns i (pos 0)) inside (ap no_literal (sym is) ∙ (past-check (no_literal n) OutOfRange None r).0)

pub inside_all : (ns : List ℤ) (i : ℕ) → length ns ≤ i → some_outside (take i ns) ≡ false → some_outside ns ≡ false
inside_all ns i ge inside = ap some_outside (sym (take_all i ns ge)) ∙ inside

-- ---- the checks of a list of 1 to 16 numbers

pub not_empty : (ns : List ℤ) → eqb (length ns) 0 ≡ false → 1 ≤ length ns
not_empty ns h = let ne = eqb-false (length ns) 0 h in omega arith

right_length : (ns : List ℤ) → 1 ≤ length ns → length ns ≤ 16 → wrong_length ns ≡ false
right_length ns p q = or_from _ _ (le-ltb (length ns) 1 p) (le-ltb 16 (length ns) q)

module _ (ns : List ℤ) (some : 1 ≤ length ns) (few : length ns ≤ 16) where
  past_count : (b : Bool) → some_outside ns ≡ b → first_failed (read_checks ns) ≡ cond b (Some OutOfRange) None
  past_count b h = ap₂ (λ (x y : Bool). cond x (Some TermCount) (cond y (Some OutOfRange) None)) (right_length ns some few) h

  pub read_refused : (e : Refusal) → (some_outside ns ≡ true) × (e ≡ OutOfRange) → Some e ≡ first_failed (read_checks ns)
  read_refused e h = ap Some h.1 ∙ sym (past_count true h.0)

  pub read_taken : some_outside ns ≡ false → None ≡ first_failed (read_checks ns)
  read_taken h = sym (past_count false h)

-- ---- a set collected from numbers

pub in_push : (ns : List ℤ) (n k : ℤ) → k ∈ (ns ++ n ∷ []) → (k ∈ ns) ⊎ (k ≡ n)
in_push [] n k (inl e) = inr e
in_push [] n k (inr h) = inl h
in_push (m ∷ ns) n k (inl e) = inl (inl e)
in_push (m ∷ ns) n k (inr h) = ⊎_elim (λ p. inl (inr p)) inr (in_push ns n k h)

pub push_in : (ns : List ℤ) (n k : ℤ) → (k ∈ ns) ⊎ (k ≡ n) → k ∈ (ns ++ n ∷ [])
push_in [] n k (inl h) = absurd h
push_in [] n k (inr e) = inl e
push_in (m ∷ ns) n k (inl (inl e)) = inl e
push_in (m ∷ ns) n k (inl (inr h)) = inr (push_in ns n k (inl h))
push_in (m ∷ ns) n k (inr e) = inr (push_in ns n k (inr e))

pub collects_none : Collects [] nothing
collects_none l = ((λ h. both_ways _ (nothing-stands l) h), (λ h. absurd h))

pub collects_more : (ns : List ℤ) (i : ℕ) (n : ℤ) (l : Literal) (s : Setting) → i < length ns → n ≡ get_or ns i (pos 0) → number l ≡ n → Collects (take i ns) s → Collects (take (i + 1) ns) (plus s l)
collects_more ns i n l s lt is e h k =
    subst (λ (xs : List ℤ). Decides (stands (plus s l) k) (number k ∈ xs)) (sym (take_more ns i (pos 0) lt)) (
      λ on. push_in _ _ _ (⊎_elim (λ (p : l ≡ k). inr (ap number (sym p) ∙ e ∙ is)) (λ p. inl ((h k).0 p)) (plus_cases s l k on)),
      λ has. ⊎_elim (λ p. plus_keeps s l k ((h k).1 p))
          (λ (p : number k ≡ get_or ns i (pos 0)). subst (λ (m : Literal). stands (plus s l) m ≡ true) (number_same l k (e ∙ is ∙ sym p)) (plus-has s l)) (in_push (take i ns) (get_or ns i (pos 0)) (number k) has),
    )
