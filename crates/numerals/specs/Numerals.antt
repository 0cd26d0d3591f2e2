-- Numbers as they are written.
--   Digit           a byte from '0' to '9'
--   read_on         the number that digits write after those that wrote n
--   Numeral         one to nine digits, with no zero before another digit, write this number
--   SignedNumeral   the same, or a minus and the digits of a number that is not 0
use Rattle.std.specs.Prelude.{◌≡◌, ℕ, ◌+◌, ◌-◌, ◌*◌, ◌<◌, ◌≤◌, List, [], ◌∷◌, length, ℤ, pos, neg_ℤ, slice_index, slice_index_or}

abbrev pub Digit : ℕ → Type 0
Digit c = (48 ≤ c) × (c ≤ 57)

abbrev pub AllDigits : List ℕ → Type 0
AllDigits ds = (k : ℕ) → k < length ds → Digit (slice_index ds k)

abbrev pub read_on : ℕ → List ℕ → ℕ
read_on n [] = n
read_on n (c ∷ cs) = read_on (10 * n + (c - 48)) cs

pub record Numeral (ds : List ℕ) (n : ℕ) : Type 0 where
  pub some : 0 < length ds
  pub few : length ds ≤ 9
  pub digits : AllDigits ds
  -- a zero stands in front only where it is the only digit
  pub lead : slice_index_or ds 0 0 ≡ 48 → length ds ≡ 1
  pub value : n ≡ read_on 0 ds

pub data SignedNumeral : List ℕ → ℤ → Type 0 where
  plain : {ds : List ℕ} {n : ℕ} → Numeral ds n → SignedNumeral ds (pos n)
  minus : {ds : List ℕ} {n : ℕ} → Numeral ds n → 0 < n → SignedNumeral (45 ∷ ds) (neg_ℤ (pos n))
