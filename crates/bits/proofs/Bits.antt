-- What each operation on words does to each bit, and that a word is known by its bits.
use Rattle.std.proofs.Common.{◌≡◌, ℕ, zero, suc, ◌-◌, ◌/◌, ◌%◌, ◌^◌, ◌<◌, min, max, Bool, true, false, not, ◌&&◌, ◌||◌, eqb, sym, refl, ap, ◌∙◌, pow-suc, one-add, arith, shr-shr}
use native.Mathlib.Nat.{pow-zero}
use lib.Arith.{digits_mod}
use lib.Bits.{bit_and, bit_or, and_step, or_step, and_shr, or_shr, or_lt}
use lib.Dec.{eqb-suc-zero, eqb-zero-suc, eqb-suc-suc}
use lib.Pow.{pow-lt}
use Rattle.std.proofs.lemmas.Nat.{and_le_l}
use Rattle.std.proofs.lemmas.Bool.{eqb-true, or_right}
use Rattle.std.proofs.lemmas.Bool.Decides.{nat_tests}
use Rattle.bits.specs.Words.{bit}

-- ---- the lowest digit

digit_lt : (n : ℕ) → n % 2 < 2
digit_lt n = omega arith

and_low : (a b : ℕ) → bit_and a b % 2 ≡ min (a % 2) (b % 2)
and_low a b = ap (λ (x : ℕ). x % 2) (and_step a b) ∙ digits_mod (bit_and (a / 2) (b / 2)) (omega arith)

or_low : (a b : ℕ) → bit_or a b % 2 ≡ max (a % 2) (b % 2)
or_low a b = ap (λ (x : ℕ). x % 2) (or_step a b) ∙ digits_mod (bit_or (a / 2) (b / 2)) (omega arith)

and_digit : (x y : ℕ) → x < 2 → y < 2 → eqb (min x y) 1 ≡ (eqb x 1 && eqb y 1)
and_digit x y p q = grind (arith, nat_tests)

or_digit : (x y : ℕ) → x < 2 → y < 2 → eqb (max x y) 1 ≡ (eqb x 1 || eqb y 1)
or_digit x y p q = grind (arith, nat_tests)

not_digit : (x : ℕ) → x < 2 → eqb (1 - x) 1 ≡ not (eqb x 1)
not_digit x p = grind (arith, nat_tests)

-- ---- what each operation does to a bit

pub bit-bit_and : (a b i : ℕ) → bit (bit_and a b) i ≡ (bit a i && bit b i)
bit-bit_and a b i =
    ap (λ (x : ℕ). eqb (x % 2) 1) (and_shr a b i) ∙ ap (λ (x : ℕ). eqb x 1) (and_low (a / 2 ^ i) (b / 2 ^ i))
    ∙ and_digit (a / 2 ^ i % 2) (b / 2 ^ i % 2) (digit_lt _) (digit_lt _)

pub bit-bit_or : (a b i : ℕ) → bit (bit_or a b) i ≡ (bit a i || bit b i)
bit-bit_or a b i =
    ap (λ (x : ℕ). eqb (x % 2) 1) (or_shr a b i) ∙ ap (λ (x : ℕ). eqb x 1) (or_low (a / 2 ^ i) (b / 2 ^ i))
    ∙ or_digit (a / 2 ^ i % 2) (b / 2 ^ i % 2) (digit_lt _) (digit_lt _)

pub bit-suc : (n i : ℕ) → bit n (suc i) ≡ bit (n / 2) i
bit-suc n i = ap (λ (x : ℕ). eqb (x % 2) 1) (ap (λ (x : ℕ). n / 2 ^ x) (sym (one-add i)) ∙ sym (shr-shr n 1 i))

pub bit-zero : (i : ℕ) → bit 0 i ≡ false
bit-zero zero = refl
bit-zero (suc i) = bit-suc 0 i ∙ bit-zero i

pub bit_pow : (i j : ℕ) → bit (2 ^ i) j ≡ eqb j i
bit_pow zero zero = refl
bit_pow zero (suc j) = bit-suc 1 j ∙ bit-zero j ∙ sym (eqb-suc-zero j)
bit_pow (suc i) zero =
    let e : 2 ^ suc i / 1 % 2 ≡ 0 = omega (arith, pow-suc 2 i) in ap (λ (x : ℕ). eqb x 1) e ∙ sym (eqb-zero-suc i)
bit_pow (suc i) (suc j) =
    let e : 2 ^ suc i / 2 ≡ 2 ^ i = omega (arith, pow-suc 2 i) in
    bit-suc (2 ^ suc i) j ∙ ap (λ (x : ℕ). bit x j) e ∙ bit_pow i j ∙ sym (eqb-suc-suc j i)

-- `!x` at k bits
pub bit_not : (k x j : ℕ) → x < 2 ^ k → j < k → bit ((2 ^ k - 1) - x) j ≡ not (bit x j)
bit_not zero x j h l = let z : ⊥ = omega arith in absurd z
bit_not (suc k) x zero h l =
    let e : ((2 ^ suc k - 1) - x) / 1 % 2 ≡ 1 - x / 1 % 2 = omega (arith, pow-suc 2 k) in
    ap (λ (d : ℕ). eqb d 1) e ∙ not_digit (x / 1 % 2) (digit_lt _)
bit_not (suc k) x (suc j) h l =
    let e : ((2 ^ suc k - 1) - x) / 2 ≡ (2 ^ k - 1) - x / 2 = omega (arith, pow-suc 2 k) in
    bit-suc ((2 ^ suc k - 1) - x) j ∙ ap (λ (y : ℕ). bit y j) e ∙ bit_not k (x / 2) j (omega (arith, pow-suc 2 k)) (omega arith) ∙ ap not (sym (bit-suc x j))

-- a word with the bit i set
pub bit_with : (w i j : ℕ) → bit (bit_or w (2 ^ i)) j ≡ (eqb j i || bit w j)
bit_with w i j = bit-bit_or w (2 ^ i) j ∙ ap (λ (t : Bool). bit w j || t) (bit_pow i j) ∙ swap (bit w j) (eqb j i)
  where
    swap : (p q : Bool) → (p || q) ≡ (q || p)
    swap p q = grind arith

-- a word of k bits with the bit i taken out
pub bit_without : (k w i j : ℕ) → i < k → j < k → bit (bit_and w ((2 ^ k - 1) - 2 ^ i)) j ≡ (not (eqb j i) && bit w j)
bit_without k w i j p q =
    bit-bit_and w ((2 ^ k - 1) - 2 ^ i) j ∙ ap (λ (t : Bool). bit w j && t) (bit_not k (2 ^ i) j (pow-lt p) q ∙ ap not (bit_pow i j)) ∙ swap (bit w j) (not (eqb j i))
  where
    swap : (a b : Bool) → (a && b) ≡ (b && a)
    swap a b = grind arith

-- ---- a word is known by its bits

low_same : (a b : ℕ) → bit a 0 ≡ bit b 0 → a % 2 ≡ b % 2
low_same a b e =
    let p : a / 1 ≡ a = omega arith in
    let q : b / 1 ≡ b = omega arith in
    let f : eqb (a % 2) 1 ≡ eqb (b % 2) 1 = ap (λ (x : ℕ). eqb (x % 2) 1) (sym p) ∙ e ∙ ap (λ (x : ℕ). eqb (x % 2) 1) q in
    digits (a % 2) (b % 2) (omega arith) (omega arith) f
  where
    digits : (x y : ℕ) → x < 2 → y < 2 → eqb x 1 ≡ eqb y 1 → x ≡ y
    digits x y h k f = grind (arith, nat_tests)

pub word_same : (k a b : ℕ) → a < 2 ^ k → b < 2 ^ k → ((j : ℕ) → j < k → bit a j ≡ bit b j) → a ≡ b
word_same zero a b p q h = omega (arith, pow-zero 2)
word_same (suc k) a b p q h =
    let lo = low_same a b (h 0 (omega arith)) in
    let hi = word_same k (a / 2) (b / 2) (omega (arith, pow-suc 2 k)) (omega (arith, pow-suc 2 k)) (λ j l. sym (bit-suc a j) ∙ h (suc j) (omega arith) ∙ bit-suc b j) in
    omega arith

-- `a | b == a` says that a has every bit of b
pub has_bits : (a b : ℕ) → bit_or a b ≡ a → (j : ℕ) → bit b j ≡ true → bit a j ≡ true
has_bits a b e j h = sym (ap (λ (x : ℕ). bit x j) e) ∙ bit-bit_or a b j ∙ or_right (bit a j) (bit b j) h

pub or_same : (k a b : ℕ) → a < 2 ^ k → b < 2 ^ k → ((j : ℕ) → j < k → bit b j ≡ true → bit a j ≡ true) → bit_or a b ≡ a
or_same k a b p q h = word_same k (bit_or a b) a (or_lt k a b p q) p (λ j l. bit-bit_or a b j ∙ absorbs (bit a j) (bit b j) (h j l))
  where
    absorbs : (x y : Bool) → (y ≡ true → x ≡ true) → (x || y) ≡ x
    absorbs true y h = refl
    absorbs false true h = sym (h refl)
    absorbs false false h = refl

-- a bit set and taken out again
pub with_without : (k a i : ℕ) → a < 2 ^ k → i < k → bit a i ≡ false → bit_and (bit_or a (2 ^ i)) ((2 ^ k - 1) - 2 ^ i) ≡ a
with_without k a i h p off =
    word_same k _ a (and_below (bit_or a (2 ^ i)) ((2 ^ k - 1) - 2 ^ i) (or_lt k a (2 ^ i) h (pow-lt p))) h
    (λ j q. bit_without k (bit_or a (2 ^ i)) i j p q ∙ ap (λ (b : Bool). not (eqb j i) && b) (bit_with a i j) ∙ at j)
  where
    and_below : (x y : ℕ) → x < 2 ^ k → bit_and x y < 2 ^ k
    and_below x y q = let le = and_le_l x y in omega arith

    cases : (b c : Bool) → (b ≡ true → c ≡ false) → (not b && (b || c)) ≡ c
    cases true c f = sym (f refl)
    cases false c f = refl

    at : (j : ℕ) → (not (eqb j i) && (eqb j i || bit a j)) ≡ bit a j
    at j = cases (eqb j i) (bit a j) (λ e. ap (bit a) (eqb-true j i e) ∙ off)
