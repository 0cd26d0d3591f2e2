-- What a literal weighs in a list of terms over distinct switches.
use Rattle.std.proofs.Common.{◌≡◌, ℕ, zero, suc, ◌+◌, ◌<◌, Bool, true, false, cond, not, ◌||◌, eqb, ◌⊎◌, List, [], ◌∷◌, find, option_map, unwrap_or, Some, None, Option, length, get_or, take, sym, refl, ap, ◌∙◌, subst, inl, inr, ⊎_elim, arith}
use Rattle.std.specs.List.{list_any}
use Rattle.std.proofs.lemmas.List.Sums.{sum_by-cons, sum_by_more}
use Rattle.std.proofs.lemmas.Bool.{eq-eqb, or_left, or_right, or_parts, and_parts, and_left, not-true, both_ways, cases_Bool}
use Rattle.literals.specs.declared.literal.Literal.{Literal}
use Rattle.literals.specs.Literals.{same}
use Rattle.literals.proofs.Known.{same_is, same_self}
use Rattle.lists.specs.Lists.{mentioned, distinct}
use Rattle.linear.specs.declared.term.Term.{Term}
use Rattle.linear.specs.Terms.{literals, weight_at, weight_of}

pub weight_none : (ts : List Term) (l : Literal) → mentioned (literals ts) l.switch ≡ false → weight_of ts l ≡ 0
weight_none [] l h = refl
weight_none (t ∷ ts) l h =
    let both = or_parts (eqb t.literal.switch l.switch) (mentioned (literals ts) l.switch) h in
    let z : weight_at l t ≡ 0 = ap (λ (b : Bool). cond b t.weight 0) (and_left _ _ both.0) in
    omega (arith, sum_by-cons (weight_at l) t ts, weight_none ts l both.1)

pub at_mentioned : (ts : List Term) (i : ℕ) (t : Term) → i < length ts → t ≡ get_or ts i t → mentioned (literals ts) t.literal.switch ≡ true
at_mentioned [] i t lt is = absurd (omega arith)
at_mentioned (x ∷ ts) zero t lt is = or_left _ _ (eq-eqb x.literal.switch t.literal.switch (ap (λ (y : Term). y.literal.switch) (sym is)))
at_mentioned (x ∷ ts) (suc i) t lt is = or_right _ _ (at_mentioned ts i t (omega arith) is)

-- the term at place i weighs its literal
pub weight_here : (ts : List Term) (i : ℕ) (t : Term) → distinct (literals ts) ≡ true → i < length ts → t ≡ get_or ts i t → weight_of ts t.literal ≡ t.weight
weight_here [] i t d lt is = absurd (omega arith)
weight_here (x ∷ ts) zero t d lt is =
    let once = and_parts (not (mentioned (literals ts) x.literal.switch)) (distinct (literals ts)) d in
    let e : x.literal ≡ t.literal = ap (λ (y : Term). y.literal) (sym is) in
    let none : weight_of ts t.literal ≡ 0 = weight_none ts t.literal (subst (λ (k : Literal). mentioned (literals ts) k.switch ≡ false) e (not-true _ once.0)) in
    let one : weight_at t.literal x ≡ x.weight =
    ap (λ (b : Bool). cond b x.weight 0) (subst (λ (k : Literal). same x.literal k ≡ true) e (same_self x.literal)) in
    let w : x.weight ≡ t.weight = ap (λ (y : Term). y.weight) (sym is) in
    omega (arith, sum_by-cons (weight_at t.literal) x ts)
weight_here (x ∷ ts) (suc i) t d lt is =
    let once = and_parts (not (mentioned (literals ts) x.literal.switch)) (distinct (literals ts)) d in
    let m = at_mentioned ts i t (omega arith) is in
    let apart : same x.literal t.literal ≡ false =
    ⊎_elim
    (λ h. absurd (both_ways _ (not-true _ once.0) (subst (λ (k : Literal). mentioned (literals ts) k.switch ≡ true) (sym (same_is x.literal t.literal h)) m)))
    (λ h. h) (cases_Bool (same x.literal t.literal)) in
    let z : weight_at t.literal x ≡ 0 = ap (λ (b : Bool). cond b x.weight 0) apart in
    omega (arith, sum_by-cons (weight_at t.literal) x ts, weight_here ts i t once.1 (omega arith) is)

-- a literal weighs something by the first term or by a later one
weighs_cases : (t : Term) (ts : List Term) (l : Literal) → 0 < weight_of (t ∷ ts) l → (same t.literal l ≡ true) ⊎ (0 < weight_of ts l)
weighs_cases t ts l h = ⊎_elim inl (λ (off : same t.literal l ≡ false). inr (later off)) (cases_Bool (same t.literal l))
  where
    later : same t.literal l ≡ false → 0 < weight_of ts l
    later off = let z : weight_at l t ≡ 0 = ap (λ (b : Bool). cond b t.weight 0) off in omega (arith, sum_by-cons (weight_at l) t ts)

weighs_mentioned : (ts : List Term) (l : Literal) → 0 < weight_of ts l → mentioned (literals ts) l.switch ≡ true
weighs_mentioned ts l h = ⊎_elim (λ on. on) (λ off. absurd (none off)) (cases_Bool (mentioned (literals ts) l.switch))
  where
    none : mentioned (literals ts) l.switch ≡ false → ⊥
    none off = let z = weight_none ts l off in omega arith

-- of the two literals of a switch one at most weighs something
pub one_weighs : (ts : List Term) (k l : Literal) → distinct (literals ts) ≡ true → 0 < weight_of ts k → 0 < weight_of ts l → k.switch ≡ l.switch → k ≡ l
one_weighs [] k l d p q e = absurd (omega arith)
one_weighs (t ∷ ts) k l d p q e =
    ⊎_elim
    (λ (a : same t.literal k ≡ true). ⊎_elim (λ (b : same t.literal l ≡ true). sym (same_is t.literal k a) ∙ same_is t.literal l b) (λ r. absurd (apart k l a r e)) (weighs_cases t ts l q))
    (λ (r : 0 < weight_of ts k). ⊎_elim (λ (b : same t.literal l ≡ true). absurd (apart l k b r (sym e))) (λ w. one_weighs ts k l once.1 r w e) (weighs_cases t ts l q))
    (weighs_cases t ts k p)
  where
    once : (mentioned (literals ts) t.literal.switch ≡ false) × (distinct (literals ts) ≡ true)
    once = let both = and_parts (not (mentioned (literals ts) t.literal.switch)) (distinct (literals ts)) d in (not-true _ both.0, both.1)

    apart : (a b : Literal) → same t.literal a ≡ true → 0 < weight_of ts b → a.switch ≡ b.switch → ⊥
    apart a b h r f =
        both_ways _ once.0
        (subst (λ (n : ℕ). mentioned (literals ts) n ≡ true) (sym (ap (λ (m : Literal). m.switch) (same_is t.literal a h) ∙ f)) (weighs_mentioned ts b r))

-- ---- the code's searches

pub any_mentions : (ts : List Term) (n : ℕ) → list_any (λ (t : Term). eqb t.literal.switch n) ts ≡ mentioned (literals ts) n
any_mentions [] n = refl
any_mentions (t ∷ ts) n = ap (λ (b : Bool). eqb t.literal.switch n || b) (any_mentions ts n)

pub fused : {A B C : Type 0} (f : A → B) (g : B → C) (o : Option A) → option_map (λ x. g (f x)) o ≡ option_map g (option_map f o)
fused f g None = refl
fused f g (Some x) = refl

-- over distinct switches, the first term that has the literal is the only one
pub found_weighs : (ts : List Term) (l : Literal) → distinct (literals ts) ≡ true → unwrap_or (option_map (λ (t : Term). t.weight) (find (λ (t : Term). same t.literal l) ts)) 0 ≡ weight_of ts l
found_weighs [] l d = refl
found_weighs (t ∷ ts) l d = ⊎_elim here (there (found_weighs ts l)) (cases_Bool (same t.literal l))
  where
    once : (mentioned (literals ts) t.literal.switch ≡ false) × (distinct (literals ts) ≡ true)
    once = let both = and_parts (not (mentioned (literals ts) t.literal.switch)) (distinct (literals ts)) d in (not-true _ both.0, both.1)

    weight_in : Option Term → ℕ
    weight_in o = unwrap_or (option_map (λ (t : Term). t.weight) o) 0

    step : (b : Bool) → same t.literal l ≡ b → weight_in (find (λ (t : Term). same t.literal l) (t ∷ ts)) ≡ weight_in (cond b (Some t) (find (λ (t : Term). same t.literal l) ts))
    step b e = ap (λ (b : Bool). weight_in (cond b (Some t) (find (λ (t : Term). same t.literal l) ts))) e

    here : same t.literal l ≡ true → weight_in (find (λ (t : Term). same t.literal l) (t ∷ ts)) ≡ weight_of (t ∷ ts) l
    here e =
        let none = weight_none ts l (subst (λ (k : Literal). mentioned (literals ts) k.switch ≡ false) (same_is t.literal l e) once.0) in
        let one : weight_at l t ≡ t.weight = ap (λ (b : Bool). cond b t.weight 0) e in
        step true e ∙ omega (arith, sum_by-cons (weight_at l) t ts)

    there : (distinct (literals ts) ≡ true → weight_in (find (λ (t : Term). same t.literal l) ts) ≡ weight_of ts l)
        → same t.literal l ≡ false → weight_in (find (λ (t : Term). same t.literal l) (t ∷ ts)) ≡ weight_of (t ∷ ts) l
    there later e =
        let z : weight_at l t ≡ 0 = ap (λ (b : Bool). cond b t.weight 0) e in
        step false e ∙ later once.1 ∙ omega (arith, sum_by-cons (weight_at l) t ts)

-- ---- a literal looked for place by place

pub none_more : (ts : List Term) (i : ℕ) (t : Term) (l : Literal) → i < length ts → t ≡ get_or ts i t → same t.literal l ≡ false
    → weight_of (take i ts) l ≡ 0 → weight_of (take (i + 1) ts) l ≡ 0
none_more ts i t l lt is off h =
    let z : weight_at l (get_or ts i t) ≡ 0 = ap (weight_at l) (sym is) ∙ ap (λ (b : Bool). cond b t.weight 0) off in
    omega (arith, sum_by_more (weight_at l) ts i t lt)

pub weight_found : (ts : List Term) (i : ℕ) (t : Term) (l : Literal) → distinct (literals ts) ≡ true → i < length ts → t ≡ get_or ts i t → same t.literal l ≡ true
    → t.weight ≡ weight_of ts l
weight_found ts i t l d lt is h = sym (weight_here ts i t d lt is) ∙ ap (weight_of ts) (same_is t.literal l h)
