-- Reading digit by digit; a text writes one number at most.
use Rattle.std.proofs.Common.{◌≡◌, ℕ, ◌+◌, ◌-◌, ◌*◌, ◌^◌, ◌<◌, ◌≤◌, List, [], ◌∷◌, length, get_or, take, drop, ℤ, pos, neg_ℤ, sym, refl, ap, ◌∙◌, subst, add-one, arith, lit≤}
use native.Mathlib.Nat.{pow-le-pow_right, pow-succ'}
use Rattle.std.proofs.lemmas.List.{take_rest}
use Rattle.numerals.specs.Numerals.{Numeral, SignedNumeral, plain, minus}

-- below nine digits a number has room for one more
pub room : (n i : ℕ) → n < 10 ^ i → i ≤ 8 → n < 10 ^ 8
room n i b h = let p : 10 ^ i ≤ 10 ^ 8 = pow-le-pow_right (lit≤ tt) h in omega arith

-- ---- the same bound at nine digits, and with one digit more, said apart from the reading

pub nine : (n i : ℕ) → n < 10 ^ i → i ≤ 9 → n < 10 ^ 9
nine n i b h = let p : 10 ^ i ≤ 10 ^ 9 = pow-le-pow_right (lit≤ tt) h in omega arith

-- one digit more
pub grown : (n i d : ℕ) → n < 10 ^ i → d ≤ 9 → 10 * n + d < 10 ^ (i + 1)
grown n i d b h = let p : 10 ^ (i + 1) ≡ 10 * 10 ^ i = rw (add-one, pow-succ') in omega arith

-- ---- one number to a text

pub one_number : (ds : List ℕ) (m n : ℕ) → Numeral ds m → Numeral ds n → m ≡ n
one_number ds m n a b = a.value ∙ sym b.value

-- a minus is no digit
minus_no_digit : (ds : List ℕ) (n : ℕ) → Numeral (45 ∷ ds) n → ⊥
minus_no_digit ds n m = let d : 48 ≤ 45 = (m.digits 0 m.some).0 in omega arith

pub one_signed : (t : List ℕ) (y z : ℤ) → SignedNumeral t y → SignedNumeral t z → y ≡ z
one_signed _ _ _ (plain m) (plain k) = ap pos (m.value ∙ sym k.value)
one_signed _ _ _ (plain m) (minus k p) = absurd (minus_no_digit _ _ m)
one_signed _ _ _ (minus k p) (plain m) = absurd (minus_no_digit _ _ m)
one_signed _ _ _ (minus m p) (minus k q) = ap (λ n. neg_ℤ (pos n)) (m.value ∙ sym k.value)

-- ---- a text that begins with a minus, and one that does not

-- what a text with a minus in front writes, its digits write
none_after : (u : List ℕ) (z : ℤ) → SignedNumeral u z → (ds : List ℕ) → u ≡ 45 ∷ ds → ((n : ℕ) → 0 < n → Numeral ds n → ⊥) → ⊥
none_after _ _ (plain {n = k} m) ds e no1 = minus_no_digit ds k (subst (λ (v : List ℕ). Numeral v k) e m)
none_after _ _ (minus {n = k} m p) ds e no1 = no1 k p (subst (λ (v : List ℕ). Numeral v k) (cc) m)

module _ (t : List ℕ) (some : 0 < length t) (first : get_or t 0 0 ≡ 45) where
  abbrev rest : List ℕ
  rest = take (length t - 1) (drop 1 t)

  split_minus : t ≡ 45 ∷ rest
  split_minus = elim t as (λ u. 0 < length u → get_or u 0 0 ≡ 45 → u ≡ 45 ∷ take (length u - 1) (drop 1 u)) [ [] ↦ λ h _. absurd (omega arith) | c ∷ cs ↦ λ _ e. rw (take_rest (c ∷ cs) 1, e) ] some first

  pub minus_written : (n : ℕ) (z : ℤ) → Numeral rest n → 0 < n → z ≡ neg_ℤ (pos n) → SignedNumeral t z
  minus_written n z m p e = rw (e, split_minus) (minus m p)

  pub minus_none : ((n : ℕ) → Numeral rest n → ⊥) → (z : ℤ) → SignedNumeral t z → ⊥
  minus_none no1 z w = none_after t z w rest split_minus (λ n p m. no1 n m)

pub plain_none : (t : List ℕ) → (get_or t 0 0 ≡ 45 → ⊥) → ((n : ℕ) → Numeral t n → ⊥) → (z : ℤ) → SignedNumeral t z → ⊥
plain_none _ first no1 _ (plain m) = no1 _ m
plain_none _ first no1 _ (minus m p) = first refl
