use Rattle.std.proofs.Common.{◌≡◌, ◌^◌, ◌<◌, drop}
use Rattle.numerals.specs.Numerals.{read_on}
use Rattle.numerals.proofs.value.Given as goal

-- what is left of the digits still gives the number, and n has as many digits as were read
abbrev pub invariant-loop-digit : goal.invariant-loop-digit
invariant-loop-digit l = record { value : read_on l.n (drop l.digit-index l.digits) ≡ read_on 0 l.digits; small : l.n < 10 ^ l.digit-index }
