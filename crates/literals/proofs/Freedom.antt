-- Free switches, one by one and counted.
use Rattle.std.proofs.Common.{◌≡◌, ℕ, ◌+◌, ◌-◌, ◌/◌, ◌%◌, ◌^◌, ◌<◌, Bool, true, false, cond, not, ◌&&◌, ◌||◌, eqb, sym, refl, ap, ◌∙◌, ap₂, arith}
use lib.Bits.{bit_or, or_lt}
use lib.Count.{ones}
use Rattle.std.proofs.lemmas.Bool.{and_from, and_left, ne_eqb}
use Rattle.std.proofs.lemmas.Bool.Decides.{nat_tests}
use Rattle.bits.specs.Words.{bit}
use Rattle.bits.proofs.Bits.{bit-bit_or, bit_not, bit_with}
use Rattle.bits.proofs.Counts.{kept_same, kept_less, kept_later, ones-kept}
use Rattle.literals.specs.declared.literal.Literal.{Literal}
use Rattle.literals.specs.declared.setting.Setting.{Setting}
use Rattle.literals.specs.Literals.{opposite}
use Rattle.literals.specs.Settings.{stands, free, plus, nothing, free_switch, free_count}
use Rattle.literals.proofs.Standing.{stands-plus, plus-has, nothing-stands}

-- a switch is free where either of its literals is
pub free_is : (s : Setting) (l : Literal) → free s l ≡ free_switch s l.switch
unfolding stands
free_is s l = go l.on
  where
    go : (b : Bool) → (not (bit (cond b s.on s.off) (l.switch - 1)) && not (bit (cond (not b) s.on s.off) (l.switch - 1))) ≡ free_switch s l.switch
    go true = grind arith
    go false = grind arith

-- the code's test
pub free_word : (s : Setting) (l : Literal) → eqb (bit_or s.on s.off / 2 ^ (l.switch - 1) % 2) 0 ≡ free s l
free_word s l = zero_or_one (bit_or s.on s.off / 2 ^ (l.switch - 1)) ∙ ap not (bit-bit_or s.on s.off (l.switch - 1)) ∙ sym (free_is s l)
  where
    zero_or_one : (x : ℕ) → eqb (x % 2) 0 ≡ not (eqb (x % 2) 1)
    zero_or_one x = grind (arith, nat_tests)

-- the ones of the complement count the free switches
pub ones-free : (s : Setting) → s.on < 2 ^ 64 → s.off < 2 ^ 64 → ones ((2 ^ 64 - 1) - bit_or s.on s.off) ≡ free_count s
unfolding free_count
ones-free s p q =
    let fits : bit_or s.on s.off < 2 ^ 64 = or_lt 64 s.on s.off p q in
    let small : (2 ^ 64 - 1) - bit_or s.on s.off < 2 ^ 64 = omega arith in
    ones-kept 64 ((2 ^ 64 - 1) - bit_or s.on s.off) small
    ∙ kept_later (bit ((2 ^ 64 - 1) - bit_or s.on s.off)) 0 64
    ∙ kept_same _ (free_switch s) 1 64 (λ n u v. bit_not 64 (bit_or s.on s.off) (n - 1) fits (omega arith) ∙ ap not (bit-bit_or s.on s.off (n - 1)))

-- ---- a free literal added

-- the literals of a switch are its literal on and its literal off
same-free : (s : Setting) (l m : Literal) → m.switch ≡ l.switch → free s m ≡ free s l
same-free s l m e = free_is s m ∙ ap (free_switch s) e ∙ sym (free_is s l)

pub plus-free : (s : Setting) (l m : Literal) → (m.switch ≡ l.switch → ⊥) → free (plus s l) m ≡ free s m
plus-free s l m ne =
    ap₂ (λ (a b : Bool). not a && not b) (other m ne) (other (opposite m) ne)
  where
    other : (k : Literal) → (k.switch ≡ l.switch → ⊥) → stands (plus s l) k ≡ stands s k
    other k d = stands-plus s l k ∙ ap (λ (b : Bool). b || stands s k) (and_left _ _ (ne_eqb l.switch k.switch (λ e. d (sym e))))

pub plus_taken : (s : Setting) (l m : Literal) → m.switch ≡ l.switch → free (plus s l) m ≡ false
plus_taken s l m e = same-free (plus s l) l m e ∙ and_left _ _ (ap not (plus-has s l))

other_switch : (s : Setting) (l : Literal) (m : ℕ) → (m - 1 ≡ l.switch - 1 → ⊥) → free_switch s m ≡ free_switch (plus s l) m
unfolding plus
other_switch s l m ne = at l.on
  where
    off : eqb (m - 1) (l.switch - 1) ≡ false
    off = ne_eqb _ _ ne

    word : (w : ℕ) → bit (bit_or w (2 ^ (l.switch - 1))) (m - 1) ≡ bit w (m - 1)
    word w = bit_with w (l.switch - 1) (m - 1) ∙ ap (λ (b : Bool). b || bit w (m - 1)) off

    at : (b : Bool) → free_switch s m ≡ not (bit (cond b (bit_or s.on (2 ^ (l.switch - 1))) s.on) (m - 1) || bit (cond b s.off (bit_or s.off (2 ^ (l.switch - 1)))) (m - 1))
    at true = ap (λ (b : Bool). not (b || bit s.off (m - 1))) (sym (word s.on))
    at false = ap (λ (b : Bool). not (bit s.on (m - 1) || b)) (sym (word s.off))

-- one switch less is free
pub free_count-plus : (s : Setting) (l : Literal) → free s l ≡ true → free_count (plus s l) + 1 ≡ free_count s
unfolding free_count
free_count-plus s l f =
    kept_less (free_switch s) (free_switch (plus s l)) 1 64 l.switch l.range.0 (omega (arith, l.range.1))
    (sym (free_is s l) ∙ f)
    (sym (free_is (plus s l) l) ∙ plus_taken s l l refl)
    (λ m u ne. other_switch s l m (λ e. ne (omega (arith, l.range.0))))

pub free_count-nothing : free_count nothing ≡ 64
unfolding free_count nothing
free_count-nothing = refl

pub nothing-free : (l : Literal) → free nothing l ≡ true
nothing-free l = and_from _ _ (ap not (nothing-stands l)) (ap not (nothing-stands (opposite l)))
