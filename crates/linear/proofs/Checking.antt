-- What is checked of weights and literals before a rule is made of them.
use Rattle.std.proofs.Common.{◌≡◌, ℕ, suc, ◌+◌, ◌-◌, ◌*◌, ◌<◌, ◌≤◌, Fits, w16, rules, sum, map, refl, Bool, true, false, cond, not, ◌||◌, eqb, ltb, List, [], ◌∷◌, ◌++◌, length, get_or, drop, ℤ, Some, None, sym, ap, ◌∙◌, ap₂, arith}
use Rattle.std.proofs.lemmas.List.{at_drop_more}
use Rattle.std.proofs.lemmas.List.Sums.{sum_by-cons}
use Rattle.std.proofs.lemmas.Bool.{eq-eqb, ne_eqb, eqb-true, lt-ltb, le-ltb, not-false, or_left, or_right, or_from, or_parts}
use Rattle.std.proofs.lemmas.Bool.Decides.{nat_tests}
use Rattle.literals.specs.declared.literal.Literal.{Literal}
use Rattle.literals.specs.declared.refusal.Refusal.{Refusal}
use Rattle.literals.specs.declared.refusal.Refusal.TheVariants.{OutOfRange, TermCount, Weight, SwitchTwice}
use Rattle.literals.specs.Literals.{opposite}
use Rattle.linear.specs.declared.term.Term.{Term}
use Rattle.literals.specs.Refusals.{Check, check, first_failed}
use Rattle.literals.proofs.Refused.{failed_before, passed_before, past-check}
use Rattle.lists.specs.Lists.{wrong_length, some_outside, switch_twice, read_checks}
use Rattle.linear.specs.Terms.{bad_after, bad_weights, literals, weights, turned}
use Rattle.linear.specs.Linears.{wrong_count, terms_checks}

-- ---- the weights, one after the other

bad_more : (ws : List ℕ) (i before : ℕ) → i < length ws
    → bad_after before (drop i ws) ≡ ((eqb (get_or ws i 0) 0 || ltb before (get_or ws i 0)) || bad_after (get_or ws i 0) (drop (i + 1) ws))
bad_more ws i before lt = at_drop_more (bad_after before) ws i 0 lt

module _ (ws : List ℕ) (i before : ℕ) (lt : i < length ws) where
  pub bad_zero : get_or ws i 0 ≡ 0 → bad_after before (drop i ws) ≡ true
  bad_zero z = bad_more ws i before lt ∙ or_left _ _ (or_left _ _ (eq-eqb _ _ z))

  pub bad_rise : before < get_or ws i 0 → bad_after before (drop i ws) ≡ true
  bad_rise h = bad_more ws i before lt ∙ or_left _ _ (or_right _ _ (lt-ltb _ _ h))

  pub good_more : (get_or ws i 0 ≡ 0 → ⊥) → get_or ws i 0 ≤ before → bad_after before (drop i ws) ≡ bad_after (get_or ws i 0) (drop (i + 1) ws)
  good_more z h = bad_more ws i before lt ∙ ap (λ (b : Bool). b || bad_after (get_or ws i 0) (drop (i + 1) ws)) (or_from _ _ (ne_eqb _ _ z) (le-ltb _ _ h))

-- ---- the terms made of them

pub sum_few : (ws : List ℕ) (n : ℕ) → length ws ≤ n → ((i : ℕ) → Fits w16 (get_or ws i 0)) → sum ws ≤ 65535 * n
sum_few [] n le fits = omega arith
sum_few (w ∷ ws) n le fits =
    let one : Fits w16 w = fits 0 in
    let low : w ≤ 65535 = search rules in
    let rest = sum_few ws (n - 1) (omega arith) (λ i. fits (suc i)) in
    omega (arith, sum_by-cons (λ x. x) w ws)

pub turned_weights : (ts : List Term) → weights (map turned ts) ≡ weights ts
turned_weights [] = refl
turned_weights (t ∷ ts) = ap (λ (ws : List ℕ). t.weight ∷ ws) (turned_weights ts)

pub turned_literals : (ts : List Term) → literals (map turned ts) ≡ map opposite (literals ts)
turned_literals [] = refl
turned_literals (t ∷ ts) = ap (λ (ls : List Literal). opposite t.literal ∷ ls) (turned_literals ts)

-- ---- the checks, in their order

-- what comes after the literals are read
abbrev then_checks : List ℕ → List ℤ → List Check
then_checks ws ns = check (bad_weights ws) Weight ∷ check (switch_twice ns) SwitchTwice ∷ []

module _ (ws : List ℕ) (ns : List ℤ) (long : length ws ≡ length ns) where
  -- of two lists of one length, the number of terms is checked as that of the literals is
  same_count : wrong_count ws ns ≡ wrong_length ns
  same_count = ap (λ (b : Bool). not b || wrong_length ns) (eq-eqb (length ws) (length ns) long)

  in_order : terms_checks ws ns ≡ read_checks ns ++ then_checks ws ns
  in_order = ap (λ (b : Bool). check b TermCount ∷ check (some_outside ns) OutOfRange ∷ then_checks ws ns) same_count

  pub not_read : (e : Refusal) → Some e ≡ first_failed (read_checks ns) → Some e ≡ first_failed (terms_checks ws ns)
  not_read e p = failed_before (read_checks ns) (then_checks ws ns) e p ∙ ap first_failed (sym in_order)

  -- once the literals are read, the weights and then the switches decide
  pub were_read : None ≡ first_failed (read_checks ns) → (a b : Bool) → bad_weights ws ≡ a → switch_twice ns ≡ b
      → first_failed (terms_checks ws ns) ≡ cond a (Some Weight) (cond b (Some SwitchTwice) None)
  were_read p a b u v =
      ap first_failed in_order ∙ passed_before (read_checks ns) (then_checks ws ns) p ∙ ap₂ (λ (x y : Bool). cond x (Some Weight) (cond y (Some SwitchTwice) None)) u v

pub unequal : (ws : List ℕ) (ns : List ℤ) → (length ws ≡ length ns → ⊥) → Some TermCount ≡ first_failed (terms_checks ws ns)
unequal ws ns ne =
    let e : eqb (length ws) (length ns) ≡ false = grind (arith, nat_tests) in
    ap (λ (b : Bool). cond (not b || wrong_length ns) (Some TermCount) (cond (some_outside ns) (Some OutOfRange) (first_failed (then_checks ws ns)))) (sym e)

-- what holds once every check has passed
pub record Passed (ws : List ℕ) (ns : List ℤ) : Type 0 where
  pub long : length ws ≡ length ns
  pub falling : bad_weights ws ≡ false
  pub once : switch_twice ns ≡ false

pub passed : (ws : List ℕ) (ns : List ℤ) → None ≡ first_failed (terms_checks ws ns) → Passed ws ns
passed ws ns p =
    let count = past-check (wrong_count ws ns) TermCount _ p in
    let inside = past-check (some_outside ns) OutOfRange _ count.1 in
    let weighed = past-check (bad_weights ws) Weight _ inside.1 in
    let once = past-check (switch_twice ns) SwitchTwice _ weighed.1 in
    let even = or_parts (not (eqb (length ws) (length ns))) (wrong_length ns) count.0 in
    record { long = eqb-true _ _ (not-false _ even.0); falling = weighed.0; once = once.0 }
