-- One kind to a letter, one order to a names line, one entry to a line.
use Rattle.std.proofs.Common.{◌≡◌, ◌≢◌, ℕ, zero, suc, ◌+◌, ◌<◌, ◌⊎◌, Bool, true, false, cond, eqb, Decides, List, [], ◌∷◌, length, get_or, ℤ, sym, refl, ap, ◌∙◌, subst, inl, inr, arith}
use Rattle.std.specs.Cmp.{IsEquivalence}
use Rattle.std.specs.List.{AllZip, Contains}
use Rattle.std.specs.Set.{is_member}
use Rattle.std.proofs.Props.{props}
use Rattle.std.proofs.lemmas.Bool.{both_ways}
use Rattle.std.proofs.lemmas.Bool.Decides.{Decides-eqb}
use Rattle.std.proofs.lemmas.Cmp.{nat_eq_equiv}
use Rattle.std.proofs.lemmas.List.{get_or_default}
use Rattle.std.proofs.lemmas.List.Kept.{AllPairs-cons}
use Rattle.std.proofs.lemmas.Map.Made.{IsDistinct-from_AllPairs, is_member-Decides, length-le_from_is_member}
use Rattle.numerals.proofs.Reading.{one_number, one_signed}
use Rattle.entries.specs.declared.column.Column.{Column}
use Rattle.entries.specs.declared.column.Column.TheVariants.{Rule, Kind, Bound, Weight, Switch}
use Rattle.entries.specs.declared.kind.RuleKind.{RuleKind}
use Rattle.entries.specs.declared.kind.RuleKind.TheVariants.{AtLeast, AtMost, Clause}
use Rattle.entries.specs.declared.order.Order.{Order}
use Rattle.entries.specs.declared.entry.Entry.{Entry}
use Rattle.entries.specs.Columns.{Apart}
use Rattle.entries.specs.Kinds.{letter_of}
use Rattle.entries.specs.Entries.{Holds, Names, Says}
use Rattle.entries.proofs.Columns.{head_of, one_list}

one_letter : (j k : RuleKind) → letter_of j ≡ letter_of k → j ≡ k
one_letter AtLeast AtLeast e = refl
one_letter AtLeast AtMost e = absurd (omega arith)
one_letter AtLeast Clause e = absurd (omega arith)
one_letter AtMost AtLeast e = absurd (omega arith)
one_letter AtMost AtMost e = refl
one_letter AtMost Clause e = absurd (omega arith)
one_letter Clause AtLeast e = absurd (omega arith)
one_letter Clause AtMost e = absurd (omega arith)
one_letter Clause Clause e = refl

-- ---- one order to a names line

five_prop : (cs : List Column) → IsProp (length cs ≡ 5)
five_prop cs = Prim.hlevel props

once_prop : (cs : List Column) → IsProp (Apart cs)
once_prop cs = Prim.hlevel props

abbrev ordered : (cs : List Column) → length cs ≡ 5 → Apart cs → Order
ordered cs five once = record { columns = cs; five = five; once = once }

same_order : (cs ds : List Column) (a : length cs ≡ 5) (u : Apart cs) (b : length ds ≡ 5) (v : Apart ds) → cs ≡ ds → ordered cs a u ≡ ordered ds b v
same_order cs ds a u b v e =
    subst (λ (xs : List Column). (b : length xs ≡ 5) (v : Apart xs) → ordered cs a u ≡ ordered xs b v) e
    (λ b v. ap (λ x. ordered cs x u) (five_prop cs a b) ∙ ap (ordered cs b) (once_prop cs u v)) b v

pub one_order : (w : List (List ℕ)) (o p : Order) → Names w o → Names w p → o ≡ p
one_order w o p a b = same_order o.columns p.columns o.five o.once p.five p.once (one_list _ _ (sym a.names ∙ b.names))

-- ---- each column is that of some field

pub code_of : Column → ℕ
code_of Rule = 0
code_of Kind = 1
code_of Bound = 2
code_of Weight = 3
code_of Switch = 4

of_code : ℕ → Column
of_code n = cond (eqb n 0) Rule (cond (eqb n 1) Kind (cond (eqb n 2) Bound (cond (eqb n 3) Weight Switch)))

of_code_of : (c : Column) → of_code (code_of c) ≡ c
unfolding code_of of_code
of_code_of Rule = refl
of_code_of Kind = refl
of_code_of Bound = refl
of_code_of Weight = refl
of_code_of Switch = refl

pub one_code : (c d : Column) → code_of c ≡ code_of d → c ≡ d
one_code c d e = sym (of_code_of c) ∙ (ap of_code e ∙ of_code_of d)

pub code_small : (c : Column) → code_of c < 5
unfolding code_of
code_small Rule = omega arith
code_small Kind = omega arith
code_small Bound = omega arith
code_small Weight = omega arith
code_small Switch = omega arith

abbrev alike : Column → Column → Bool
alike c d = eqb (code_of c) (code_of d)

alike_decides : (c d : Column) → Decides (alike c d) (c ≡ d)
alike_decides c d =
    let codes = Decides-eqb (code_of c) (code_of d) in
    (λ e. one_code c d (codes.0 e), λ e. codes.1 (ap code_of e))

alike_equiv : IsEquivalence alike
alike_equiv = record {
  refl = λ c. nat_eq_equiv.refl (code_of c);
  symm = λ c d. nat_eq_equiv.symm (code_of c) (code_of d);
  congr = λ b c d. nat_eq_equiv.congr (code_of b) (code_of c) (code_of d);
}

abbrev all : List Column
all = Rule ∷ Kind ∷ Bound ∷ Weight ∷ Switch ∷ []

in_all : (c : Column) → is_member alike all c ≡ true
unfolding code_of
in_all Rule = refl
in_all Kind = refl
in_all Bound = refl
in_all Weight = refl
in_all Switch = refl

each : (cs : List Column) → length cs ≡ 5 → Apart cs → (c : Column) (b : Bool) → is_member alike cs c ≡ b → Contains cs c
each cs five once c true e = (is_member-Decides alike_decides cs c).0 e
each cs five once c false e =
    let new : (i : ℕ) (d : Column) → i < length cs → c ≡ get_or cs i d → ⊥ =
    λ i d h same. both_ways _ e ((is_member-Decides alike_decides cs c).1 (i, h, get_or_default cs i c d h ∙ sym same)) in
    let six = IsDistinct-from_AllPairs alike_decides (c ∷ cs) (AllPairs-cons ◌≢◌ c cs new once) in
    absurd (omega (arith, length-le_from_is_member alike_equiv (c ∷ cs) all six (λ q m. in_all q)))

-- ---- one entry to a line

abbrev SameAt : Column → Entry → Entry → Type 0
SameAt Rule x y = x.rule ≡ y.rule
SameAt Kind x y = x.kind ≡ y.kind
SameAt Bound x y = x.bound ≡ y.bound
SameAt Weight x y = x.weight ≡ y.weight
SameAt Switch x y = x.switch ≡ y.switch

same_at : (c : Column) (f : List ℕ) (x y : Entry) → Holds c f x → Holds c f y → SameAt c x y
same_at Rule f x y a b = one_number f _ _ a b
same_at Kind f x y a b = one_letter _ _ (head_of (sym a ∙ b))
same_at Bound f x y a b = one_number f _ _ a b
same_at Weight f x y a b = one_number f _ _ a b
same_at Switch f x y a b = one_signed f _ _ a b

same_along : (cs : List Column) (w : List (List ℕ)) (x y : Entry) → AllZip (λ c f. Holds c f x) cs w → AllZip (λ c f. Holds c f y) cs w
    → (i : ℕ) (d : Column) → i < length cs → SameAt (get_or cs i d) x y
same_along [] w x y a b i d h = absurd (omega arith)
same_along (c ∷ cs) [] x y a b i d h = absurd a
same_along (c ∷ cs) (f ∷ w) x y a b zero d h = same_at c f x y a.0 b.0
same_along (c ∷ cs) (f ∷ w) x y a b (suc i) d h = same_along cs w x y a.1 b.1 i d (omega arith)

abbrev entry : ℕ → RuleKind → ℕ → ℕ → ℤ → Entry
entry rule kind bound weight switch = record { rule = rule; kind = kind; bound = bound; weight = weight; switch = switch }

module _ (o : Order) (w : List (List ℕ)) (x y : Entry) (a : Says o w x) (b : Says o w y) where
  at_column : (c : Column) → SameAt c x y
  at_column c =
      let at = each o.columns o.five o.once c _ refl in
      subst (λ d. SameAt d x y) at.2 (same_along o.columns w x y a.fields b.fields at.0 c at.1)

  pub one_entry : x ≡ y
  one_entry =
      let whole : entry x.rule x.kind x.bound x.weight x.switch ≡ entry y.rule y.kind y.bound y.weight y.switch =
      cc (at_column Rule, at_column Kind, at_column Bound, at_column Weight, at_column Switch) in
      whole

-- ---- numbers from which one, k, is left out, so that those above it move down

squash_one : (k x y u v : ℕ) → (((x < k) × (u ≡ x)) ⊎ ((k < x) × (x ≡ u + 1))) → (((y < k) × (v ≡ y)) ⊎ ((k < y) × (y ≡ v + 1))) → u ≡ v → x ≡ y
squash_one k x y u v p q e = elim p [
  | inl a ↦ elim q [ inl b ↦ omega (arith, a.1, b.1) | inr b ↦ omega (arith, a.0, a.1, b.0, b.1) ]
  | inr a ↦ elim q [ inl b ↦ omega (arith, a.0, a.1, b.0, b.1) | inr b ↦ omega (arith, a.1, b.1) ]
]
