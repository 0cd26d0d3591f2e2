-- A literal is known by its switch and side, and by its number.
use Rattle.std.proofs.Common.{◌≡◌, ℕ, zero, suc, ◌≤◌, Bool, true, false, cond, not, ◌&&◌, eqb, ℤ, pos, neg_ℤ, Decides, sym, refl, ap, subst, ap₂, arith, rules}
use mathlib.Core.Bool.{beq}
use native.Mathlib.Bridge.{le_prop}
use Rattle.std.proofs.lemmas.Int.{ints}
use Rattle.std.proofs.lemmas.Bool.{and_parts, and_from, and_right, eq-eqb, eqb-true}
use Rattle.std.proofs.lemmas.Bool.Decides.{nat_tests}
use Rattle.literals.specs.contracts.literal.LiteralPartialEq.TheImpl as equals
use Rattle.literals.specs.declared.literal.Literal.{Literal}
use Rattle.literals.specs.Literals.{number, size, opposite, same}

abbrev made : (n : ℕ) (b : Bool) → (1 ≤ n) × (n ≤ 64) → Literal
made n b r = record { switch = n; on = b; range = r }

range_same : (n : ℕ) (b : Bool) (u v : (1 ≤ n) × (n ≤ 64)) → made n b u ≡ made n b v
range_same n b u v = ap (made n b) (ap₂ (λ (x : 1 ≤ n) (y : n ≤ 64). (x, y)) (le_prop u.0 v.0) (le_prop u.1 v.1))

parts_same : (n : ℕ) (b : Bool) (u : (1 ≤ n) × (n ≤ 64)) (m : ℕ) (d : Bool) (v : (1 ≤ m) × (m ≤ 64)) → n ≡ m → b ≡ d → made n b u ≡ made m d v
parts_same n b u m d v p q =
    subst (λ (y : ℕ). (w : (1 ≤ y) × (y ≤ 64)) → made n b u ≡ made y d w) p
    (λ w. subst (λ (z : Bool). made n b u ≡ made n z w) q (range_same n b u w))
    v

pub literal_same : (l m : Literal) → l.switch ≡ m.switch → l.on ≡ m.on → l ≡ m
literal_same l m p q = parts_same l.switch l.on l.range m.switch m.on m.range p q

number_parts : (n m : ℕ) (b d : Bool) → 1 ≤ n → 1 ≤ m → cond b (pos n) (neg_ℤ (pos n)) ≡ cond d (pos m) (neg_ℤ (pos m)) → (n ≡ m) × (b ≡ d)
number_parts n m true true p q e = (omega (arith, ints), refl)
number_parts n m true false p q e = absurd (omega (arith, ints))
number_parts n m false true p q e = absurd (omega (arith, ints))
number_parts n m false false p q e = (omega (arith, ints), refl)

pub number_same : (l m : Literal) → number l ≡ number m → l ≡ m
number_same l m e =
    let p = number_parts l.switch m.switch l.on m.on l.range.0 m.range.0 e in literal_same l m p.0 p.1

-- the size of a literal's number is its switch
pub number_size : (l : Literal) → size (number l) ≡ l.switch
number_size l = at l.switch l.on l.range.0
  where
    at : (n : ℕ) (b : Bool) → 1 ≤ n → size (cond b (pos n) (neg_ℤ (pos n))) ≡ n
    at n true h = refl
    at zero false h = refl
    at (suc k) false h = omega arith

-- ---- the test of sameness

side_self : (b : Bool) → beq b b ≡ true
side_self true = refl
side_self false = refl

side_other : (b : Bool) → beq b (not b) ≡ false
side_other true = refl
side_other false = refl

side_is : (b d : Bool) → beq b d ≡ true → b ≡ d
side_is true true h = refl
side_is true false h = sym h
side_is false true h = h
side_is false false h = refl

pub same_self : (l : Literal) → same l l ≡ true
same_self l = and_from _ _ (eq-eqb l.switch l.switch refl) (side_self l.on)

pub same_is : (l m : Literal) → same l m ≡ true → l ≡ m
same_is l m h =
    let p = and_parts (eqb l.switch m.switch) (beq l.on m.on) h in
    literal_same l m (eqb-true _ _ p.0) (side_is l.on m.on p.1)

pub same_decides : (l m : Literal) → Decides (same l m) (l ≡ m)
same_decides l m = (same_is l m, λ e. subst (λ (k : Literal). same l k ≡ true) e (same_self l))

-- ---- opposites

pub number-opposite : (l : Literal) → number (opposite l) ≡ neg_ℤ (number l)
number-opposite l = at l.on (pos l.switch)
  where
    at : (b : Bool) (z : ℤ) → cond (not b) z (neg_ℤ z) ≡ neg_ℤ (cond b z (neg_ℤ z))
    at true z = refl
    at false z = omega (arith, ints)

pub opposite_twice : (l : Literal) → opposite (opposite l) ≡ l
opposite_twice l = literal_same (opposite (opposite l)) l refl (twice l.on)
  where
    twice : (b : Bool) → not (not b) ≡ b
    twice true = refl
    twice false = refl

pub same-opposite : (l : Literal) → same l (opposite l) ≡ false
same-opposite l = and_right (eqb l.switch l.switch) _ (side_other l.on)

pub same_opposites : (l m : Literal) → same (opposite m) (opposite l) ≡ same l m
same_opposites l m = ap₂ (λ (a b : Bool). a && b) (turn m.switch l.switch) (sides m.on l.on)
  where
    turn : (a b : ℕ) → eqb a b ≡ eqb b a
    turn a b = grind (arith, nat_tests)

    sides : (a b : Bool) → beq (not a) (not b) ≡ beq b a
    sides a b = grind arith

-- what `==` on literals answers
pub equal_same : (l m : Literal) → equals.ghosts.eq l m ≡ same l m
equal_same l m = search rules
