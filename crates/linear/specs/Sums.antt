-- Slacks as sums: the step of the loop, what is below 0, and what a set with one literal more leaves of them.
use Rattle.std.specs.Prelude.{◌≡◌, ℕ, ◌+◌, ◌<◌, ◌≤◌, Bool, true, false, cond, ◌||◌, List, [], ◌∷◌, length, take, ℤ, pos, ◌+ℤ◌, ◌-ℤ◌, int_lt, nat_lt, slice_index_or, refl}
use Rattle.std.proofs.Common.{sym, ap, ap₂, ◌∙◌, subst, ⊎_elim, arith}
use Rattle.std.proofs.lemmas.Int.{ints}
use Rattle.std.proofs.lemmas.List.Sums.{sum_by_more, sum_by-cons}
use Rattle.std.proofs.lemmas.Bool.{cases_Bool, eq-eqb, or_left, or_right}
use Rattle.std.proofs.lemmas.Bool.Decides.{nat_tests}
use Rattle.literals.specs.declared.literal.Literal.{Literal}
use Rattle.literals.specs.declared.setting.Setting.{Setting}
use Rattle.literals.specs.Literals.{opposite, same}
use Rattle.literals.specs.Settings.{stands, free, plus}
use Rattle.literals.proofs.Known.{same_is, same_opposites}
use Rattle.literals.proofs.Standing.{stands-plus, plus-has, free_parts}
use Rattle.lists.specs.Lists.{mentioned}
use Rattle.linear.specs.declared.term.Term.{Term}
use Rattle.linear.specs.Terms.{literals, counts, counted, weight_at, weight_of}
use Rattle.linear.specs.Slacks.{slack}

-- ---- one term more

module _ (s : Setting) (ts : List Term) (i : ℕ) (t : Term) (lt : i < length ts) (is : t ≡ slice_index_or ts i t) where
  pub counted_more : counted s (take (i + 1) ts) ≡ counted s (take i ts) + counts s t
  counted_more = sum_by_more (counts s) ts i t lt ∙ ap (λ (x : Term). counted s (take i ts) + counts s x) (sym is)

  pub slack_more : (d : ℕ) (z : ℤ) (c : ℕ) → z ≡ slack (take i ts) d s → c ≡ counts s t → z +ℤ pos c ≡ slack (take (i + 1) ts) d s
  slack_more d z c p q =
      ap₂ (λ (y : ℤ) (n : ℕ). y +ℤ pos n) p q ∙ joined (counted s (take i ts)) (counts s t) ∙ ap (λ (n : ℕ). pos n -ℤ pos d) (sym counted_more)
    where
      joined : (a b : ℕ) → (pos a -ℤ pos d) +ℤ pos b ≡ pos (a + b) -ℤ pos d
      joined a b = omega (arith, ints)

-- ---- slacks, by the sum and the degree

pub below_zero : (a d : ℕ) → int_lt (pos a -ℤ pos d) (pos 0) ≡ nat_lt a d
below_zero a d = grind (arith, ints, nat_tests)

pub below_weight : (a d w : ℕ) → int_lt (pos a -ℤ pos d) (pos w) ≡ nat_lt a (w + d)
below_weight a d w = grind (arith, ints, nat_tests)

-- ---- what two sets leave of the sum

cond_le : (a b : Bool) (w : ℕ) → (a ≡ true → b ≡ true) → cond b 0 w ≤ cond a 0 w
cond_le true b w h = let e : cond b 0 w ≡ 0 = ap (λ (x : Bool). cond x 0 w) (h refl) in omega arith
cond_le false true w h = omega arith
cond_le false false w h = omega arith

-- a set in which the literals of s on switches of the terms stand too leaves no more
pub counted_falls : (s t : Setting) (ts : List Term) → ((l : Literal) → mentioned (literals ts) l.switch ≡ true → stands s l ≡ true → stands t l ≡ true)
    → counted t ts ≤ counted s ts
counted_falls s t [] h = omega arith
counted_falls s t (x ∷ ts) h =
    let l = opposite x.literal in
    let here = cond_le (stands s l) (stands t l) x.weight (h l (or_left _ _ (eq-eqb x.literal.switch x.literal.switch refl))) in
    let rest = counted_falls s t ts (λ k m. h k (or_right _ _ m)) in
    omega (arith, sum_by-cons (counts s) x ts, sum_by-cons (counts t) x ts)

-- ---- the opposite of a free literal added takes its weight away

term_plus : (s : Setting) (l : Literal) (t : Term) → free s l ≡ true → counts (plus s (opposite l)) t + weight_at l t ≡ counts s t
term_plus s l t f = ⊎_elim here there (cases_Bool (same t.literal l))
  where
    here : same t.literal l ≡ true → counts (plus s (opposite l)) t + weight_at l t ≡ counts s t
    here h =
        let e = same_is t.literal l h in
        let now_false : stands (plus s (opposite l)) (opposite t.literal) ≡ true =
        subst (λ (k : Literal). stands (plus s (opposite l)) (opposite k) ≡ true) (sym e) (plus-has s (opposite l)) in
        let not-false : stands s (opposite t.literal) ≡ false = subst (λ (k : Literal). stands s (opposite k) ≡ false) (sym e) (free_parts s l f).1 in
        let a : counts (plus s (opposite l)) t ≡ 0 = ap (λ (b : Bool). cond b 0 t.weight) now_false in
        let b : counts s t ≡ t.weight = ap (λ (b : Bool). cond b 0 t.weight) not-false in
        let c : weight_at l t ≡ t.weight = ap (λ (b : Bool). cond b t.weight 0) h in
        omega arith

    there : same t.literal l ≡ false → counts (plus s (opposite l)) t + weight_at l t ≡ counts s t
    there h =
        let other : same (opposite l) (opposite t.literal) ≡ false = same_opposites t.literal l ∙ h in
        let a : counts (plus s (opposite l)) t ≡ counts s t =
        ap (λ (b : Bool). cond b 0 t.weight) (stands-plus s (opposite l) (opposite t.literal) ∙ ap (λ (b : Bool). b || stands s (opposite t.literal)) other) in
        let c : weight_at l t ≡ 0 = ap (λ (b : Bool). cond b t.weight 0) h in
        omega arith

pub counted_plus : (s : Setting) (l : Literal) (ts : List Term) → free s l ≡ true → counted (plus s (opposite l)) ts + weight_of ts l ≡ counted s ts
counted_plus s l [] f = refl
counted_plus s l (t ∷ ts) f =
    omega (arith, term_plus s l t f, counted_plus s l ts f, sum_by-cons (counts s) t ts, sum_by-cons (counts (plus s (opposite l))) t ts, sum_by-cons (weight_at l) t ts)
