-- Every number below 10 ^ 9 is written by a numeral, and so is its negative.
use Rattle.std.proofs.Common.{◌≡◌, ℕ, suc, ◌^◌, ◌<◌, length, get_or, ℤ, pos, negsuc, decimal, sym, ap, ◌∙◌, inl, inr, arith, rules}
use lib.Signed.{mag}
use Rattle.std.specs.Fmt.{signed_decimal}
use Rattle.std.proofs.lemmas.Fmt.{decimal_nonempty, length-decimal-le, first_decimal, decimal_digit, digits_decimal, digits_value-decimal}
use Rattle.std.proofs.lemmas.Str.Parse.{IsNumeralModel, tells_by_index, numerals_by_fold}
use Rattle.std.proofs.lemmas.Bool.{cases_order}
use Rattle.numerals.specs.Numerals.{AllDigits, read_on, Numeral, SignedNumeral, plain, minus}

own : IsNumeralModel AllDigits (read_on 0)
own = numerals_by_fold _ tells_by_index read_on (search rules)

lead_decimal : (n : ℕ) → n < 10 ^ 9 → get_or (decimal n) 0 0 ≡ 48 → length (decimal n) ≡ 1
lead_decimal n small e = elim (cases_order n 0) [
  | inl z ↦ ap (λ (k : ℕ). length (decimal k)) z ∙ ap length (decimal_digit 0 (omega arith))
  | inr (inl l) ↦ absurd (omega arith)
  | inr (inr l) ↦ absurd (omega (arith, first_decimal n l (omega arith)))
]

pub decimal_writes : (n : ℕ) → n < 10 ^ 9 → Numeral (decimal n) n
decimal_writes n small = record {
  some = decimal_nonempty n (omega arith);
  few = length-decimal-le 9 n (omega arith) small (omega arith);
  digits = digits_decimal own n (omega arith);
  lead = lead_decimal n small;
  value = sym (digits_value-decimal own n (omega arith));
}

pub signed_writes : (z : ℤ) → mag z < 999999999 → SignedNumeral (signed_decimal z) z
signed_writes (pos n) small = plain (decimal_writes n (omega arith))
signed_writes (negsuc n) small = minus (decimal_writes (suc n) (omega arith)) (omega arith)
