-- The literal of the lowest switch among the terms that pass a test: the loop that looks for it, and that it is the first above a number.
use Rattle.std.proofs.Common.{◌≡◌, ℕ, ◌+◌, ◌<◌, ◌≤◌, Bool, true, false, cond, not, ◌&&◌, ltb, ◌⊎◌, List, [], ◌∷◌, ◌++◌, length, get_or, take, ℤ, pos, Some, None, Option, sym, refl, ap, ◌∙◌, subst, inl, inr, ⊎_elim, arith}
use lib.Signed.{lt_z}
use Rattle.std.specs.List.{All}
use Rattle.std.proofs.lemmas.List.{take_more}
use Rattle.std.proofs.lemmas.List.Elements.{All-head, All-tail, All-push, All-weaker}
use Rattle.std.proofs.lemmas.Int.{ints}
use Rattle.std.proofs.lemmas.List.Sums.{sum_by-cons}
use Rattle.std.proofs.lemmas.Bool.{cases_Bool, and_parts, and_from, and_cases, not-true, not_from_false, both_ways, cond_both, ltb-true, ltb-false}
use Rattle.std.proofs.lemmas.Bool.Decides.{nat_tests}
use Rattle.literals.specs.declared.literal.Literal.{Literal}
use Rattle.literals.specs.declared.setting.Setting.{Setting}
use Rattle.literals.specs.Literals.{same}
use Rattle.literals.specs.Settings.{free}
use Rattle.literals.proofs.Known.{same_is, same_self}
use Rattle.lists.specs.Lists.{mentioned, distinct}
use Rattle.linear.specs.declared.term.Term.{Term}
use Rattle.linear.specs.Terms.{literals, weight_at, weight_of}
use Rattle.linear.specs.Slacks.{above, FirstAbove}
use Rattle.linear.specs.Lowests.{passes, improved}
use Rattle.linear.proofs.Weights.{weight_none}

-- some term has P
abbrev pub Any : (Term → Type 0) → List Term → Type 0
Any P [] = ⊥
Any P (t ∷ ts) = P t ⊎ Any P ts

abbrev pub Lowest : (Term → Bool) → List Term → Option Literal → Type 0
Lowest p ts None = All (λ t. p t ≡ false) ts
Lowest p ts (Some l) = Any (λ t. (p t ≡ true) × (t.literal ≡ l)) ts × All (λ t. p t ≡ true → l.switch ≤ t.literal.switch) ts

-- ---- the loop

any_push : (P : Term → Type 0) (ts : List Term) (t : Term) → P t → Any P (ts ++ t ∷ [])
any_push P [] t h = inl h
any_push P (x ∷ ts) t h = inr (any_push P ts t h)

any_append : (P : Term → Type 0) (ts us : List Term) → Any P ts → Any P (ts ++ us)
any_append P [] us h = absurd h
any_append P (t ∷ ts) us (inl h) = inl h
any_append P (t ∷ ts) us (inr h) = inr (any_append P ts us h)

pub lowest_push : (p : Term → Bool) (ts : List Term) (t : Term) (best : Option Literal) → Lowest p ts best → Lowest p (ts ++ t ∷ []) (improved p best t)
lowest_push p ts t None h =
    cond_both (p t && true) (Some t.literal) None (λ o. Lowest p (ts ++ t ∷ []) o)
    (λ e. (
      any_push _ ts t ((and_parts (p t) true e).0, refl),
      All-push (λ u. p u ≡ true → t.literal.switch ≤ u.literal.switch) ts t
          (All-weaker (λ u. p u ≡ false) (λ u. p u ≡ true → t.literal.switch ≤ u.literal.switch) (λ u off on. absurd (both_ways (p u) off on)) ts h)
          (λ _. omega arith),
    ))
    (λ e. All-push (λ u. p u ≡ false) ts t h (⊎_elim (λ off. off) (λ z. absurd (both_ways true z refl)) (and_cases (p t) true e)))
lowest_push p ts t (Some b) h =
    cond_both (p t && ltb t.literal.switch b.switch) (Some t.literal) (Some b) (λ o. Lowest p (ts ++ t ∷ []) o)
    (λ e.
    let parts = and_parts (p t) (ltb t.literal.switch b.switch) e in
    let lt : t.literal.switch < b.switch = ltb-true _ _ parts.1 in (
      any_push _ ts t (parts.0, refl),
      All-push (λ u. p u ≡ true → t.literal.switch ≤ u.literal.switch) ts t
          (All-weaker (λ u. p u ≡ true → b.switch ≤ u.literal.switch) (λ u. p u ≡ true → t.literal.switch ≤ u.literal.switch) (λ u f on. omega (arith, f on)) ts h.1)
          (λ _. omega arith),
    ))
    (λ e. (
      any_append _ ts (t ∷ []) h.0,
      All-push (λ u. p u ≡ true → b.switch ≤ u.literal.switch) ts t h.1
          (λ on. ⊎_elim (λ off. absurd (both_ways (p t) off on)) (λ off. ltb-false _ _ off) (and_cases (p t) _ e)),
    ))

pub lowest_improved : (p : Term → Bool) (ts : List Term) (t : Term) (best next : Option Literal) → next ≡ improved p best t → Lowest p ts best → Lowest p (ts ++ t ∷ []) next
lowest_improved p ts t best next e h = subst (λ (o : Option Literal). Lowest p (ts ++ t ∷ []) o) (sym e) (lowest_push p ts t best h)

pub lowest_more : (p : Term → Bool) (ts : List Term) (i : ℕ) (t : Term) (best next : Option Literal) → i < length ts → t ≡ get_or ts i t → next ≡ improved p best t
    → Lowest p (take i ts) best → Lowest p (take (i + 1) ts) next
lowest_more p ts i t best next lt is e h =
    let more : take (i + 1) ts ≡ take i ts ++ (t ∷ []) = take_more ts i t lt ∙ ap (λ (y : Term). take i ts ++ (y ∷ [])) (sym is) in
    subst (λ (o : Option Literal). Lowest p (take (i + 1) ts) o) (sym e)
    (subst (λ (xs : List Term). Lowest p xs (improved p best t)) (sym more) (lowest_push p (take i ts) t best h))

-- ---- over distinct switches, a literal that weighs something is that of one term, which has its weight

any_from_all : (P Q : Term → Type 0) (ts : List Term) (R : Type 0) → ((t : Term) → P t → Q t → R) → Any P ts → All Q ts → R
any_from_all P Q [] R f h k = absurd h
any_from_all P Q (t ∷ ts) R f (inl h) k = f t h (All-head Q t ts k)
any_from_all P Q (t ∷ ts) R f (inr h) k = any_from_all P Q ts R f h (All-tail Q t ts k)

abbrev Weighs : List Term → Literal → Term → Type 0
Weighs ts l t = (t.literal ≡ l) × (t.weight ≡ weight_of ts l)

weighing : (ts : List Term) (l : Literal) → distinct (literals ts) ≡ true → 0 < weight_of ts l → Any (Weighs ts l) ts
weighing [] l d h = absurd (omega arith)
weighing (t ∷ ts) l d h = ⊎_elim here (there (weighing ts l)) (cases_Bool (same t.literal l))
  where
    once : (mentioned (literals ts) t.literal.switch ≡ false) × (distinct (literals ts) ≡ true)
    once = let both = and_parts (not (mentioned (literals ts) t.literal.switch)) (distinct (literals ts)) d in (not-true _ both.0, both.1)

    here : same t.literal l ≡ true → Any (Weighs (t ∷ ts) l) (t ∷ ts)
    here e =
        let is = same_is t.literal l e in
        let none = weight_none ts l (subst (λ (k : Literal). mentioned (literals ts) k.switch ≡ false) is once.0) in
        let one : weight_at l t ≡ t.weight = ap (λ (b : Bool). cond b t.weight 0) e in
        inl (is, omega (arith, sum_by-cons (weight_at l) t ts))

    there : (distinct (literals ts) ≡ true → 0 < weight_of ts l → Any (Weighs ts l) ts) → same t.literal l ≡ false → Any (Weighs (t ∷ ts) l) (t ∷ ts)
    there later e =
        let z : weight_at l t ≡ 0 = ap (λ (b : Bool). cond b t.weight 0) e in
        let sum = sum_by-cons (weight_at l) t ts in
        inr (weaken ts (omega arith) (later once.1 (omega arith)))
      where
        weaken : (us : List Term) → weight_of ts l ≡ weight_of (t ∷ ts) l → Any (Weighs ts l) us → Any (Weighs (t ∷ ts) l) us
        weaken [] q k = k
        weaken (u ∷ us) q (inl k) = inl (k.0, k.1 ∙ q)
        weaken (u ∷ us) q (inr k) = inr (weaken us q k)

any_weighs : (ts : List Term) (p : Term → Bool) (l : Literal) → distinct (literals ts) ≡ true → Any (λ t. (p t ≡ true) × (t.literal ≡ l)) ts
    → (t : Term) × (p t ≡ true) × Weighs ts l t
any_weighs [] p l d h = absurd h
any_weighs (t ∷ ts) p l d (inl h) =
    let both = and_parts (not (mentioned (literals ts) t.literal.switch)) (distinct (literals ts)) d in
    let none = weight_none ts l (subst (λ (k : Literal). mentioned (literals ts) k.switch ≡ false) h.1 (not-true _ both.0)) in
    let one : weight_at l t ≡ t.weight = ap (λ (b : Bool). cond b t.weight 0) (subst (λ (k : Literal). same t.literal k ≡ true) h.1 (same_self t.literal)) in
    (t, h.0, (h.1, omega (arith, sum_by-cons (weight_at l) t ts)))
any_weighs (t ∷ ts) p l d (inr h) =
    let both = and_parts (not (mentioned (literals ts) t.literal.switch)) (distinct (literals ts)) d in
    let found = any_weighs ts p l both.1 h in
    let apart : same t.literal l ≡ false = ⊎_elim (λ e. absurd (never e both.0 h)) (λ e. e) (cases_Bool (same t.literal l)) in
    let z : weight_at l t ≡ 0 = ap (λ (b : Bool). cond b t.weight 0) apart in
    let w = found.2.1 in
    (found.0, found.1, (found.2.0, omega (arith, sum_by-cons (weight_at l) t ts)))
  where
    mentions : (us : List Term) → Any (λ u. (p u ≡ true) × (u.literal ≡ l)) us → mentioned (literals us) l.switch ≡ true
    mentions [] k = absurd k
    mentions (u ∷ us) (inl k) = subst (λ (m : Literal). mentioned (literals (u ∷ us)) m.switch ≡ true) k.1 (grind (arith, nat_tests))
    mentions (u ∷ us) (inr k) = let rest = mentions us k in grind (arith, nat_tests)

    never : same t.literal l ≡ true → not (mentioned (literals ts) t.literal.switch) ≡ true → Any (λ u. (p u ≡ true) × (u.literal ≡ l)) ts → ⊥
    never e off k = both_ways _ (not-true _ off) (subst (λ (m : Literal). mentioned (literals ts) m.switch ≡ true) (sym (same_is t.literal l e)) (mentions ts k))

-- ---- the lowest term that passes is the first above the number

module _ (ts : List Term) (z : ℤ) (s : Setting) (d : distinct (literals ts) ≡ true) (low : lt_z z (pos 0) ≡ false) where
  -- a literal above the number is that of a term that passes
  term-above : (l : Literal) → above ts z s l ≡ true → Any (λ t. (passes z s t ≡ true) × (t.literal ≡ l)) ts
  term-above l h =
      let parts = (and_parts (not (lt_z z (pos 0))) _ h).1 in
      let both = and_parts (free s l) (lt_z z (pos (weight_of ts l))) parts in
      pass ts both.0 both.1 (weighing ts l d (some (weight_of ts l) both.1))
    where
      some : (w : ℕ) → lt_z z (pos w) ≡ true → 0 < w
      some w k = grind (arith, ints)

      pass : (us : List Term) → free s l ≡ true → lt_z z (pos (weight_of ts l)) ≡ true → Any (Weighs ts l) us → Any (λ t. (passes z s t ≡ true) × (t.literal ≡ l)) us
      pass [] f w k = k
      pass (u ∷ us) f w (inl k) =
          inl (and_from _ _ (ap (λ (n : ℕ). lt_z z (pos n)) k.1 ∙ w) (subst (λ (m : Literal). free s m ≡ true) (sym k.0) f), k.0)
      pass (u ∷ us) f w (inr k) = inr (pass us f w k)

  pub first_above : (best : Option Literal) → Lowest (passes z s) ts best → FirstAbove ts z s best
  first_above None h =
      λ l. ⊎_elim (λ on. absurd (any_from_all _ (λ t. passes z s t ≡ false) ts ⊥ (λ t p off. both_ways _ off p.0) (term-above l on) h)) (λ off. off) (cases_Bool (above ts z s l))
  first_above (Some l) h =
      let found = any_weighs ts (passes z s) l d h.0 in
      let t = found.0 in
      let both = and_parts (lt_z z (pos t.weight)) (free s t.literal) found.1 in (
        and_from _ _ (not_from_false _ low)
            (and_from _ _ (subst (λ (m : Literal). free s m ≡ true) found.2.0 both.1) (ap (λ (n : ℕ). lt_z z (pos n)) (sym found.2.1) ∙ both.0)),
        λ k on. any_from_all _ (λ t. passes z s t ≡ true → l.switch ≤ t.literal.switch) ts (l.switch ≤ k.switch) (λ t p f. subst (λ (m : Literal). l.switch ≤ m.switch) p.1 (f p.0)) (term-above k on) h.1,
      )
