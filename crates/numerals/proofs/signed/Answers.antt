use Rattle.std.proofs.Common.{◌≡◌, pos, ◌-ℤ◌, neg_ℤ, arith, w32, to_z, of_z, rules}
use Rattle.std.proofs.lemmas.Int.{ints}
use Rattle.numerals.specs.Numerals.{plain}
use Rattle.numerals.proofs.Reading.{minus_none, minus_written}
use Rattle.numerals.proofs.signed.Goals as goal

pub returns-in_err-size-in-45 : goal.returns-in_err-size-in-45
returns-in_err-size-in-45 c = rw c.from_residual.ensures (minus_none _ (search rules) (search rules) c.in_err-size-in-45.ensures)

pub returns-in_default-2 : goal.returns-in_default-2
returns-in_default-2 c =
    let size = c.in_ok-size-in-45.ensures in
    let e : to_z w32 (of_z w32 (pos 0 -ℤ to_z w32 c.in_ok-size-in-45.size)) ≡ neg_ℤ (pos c.in_ok-size-in-45.size) = omega (arith, ints, size.1) in
    (minus_written _ (search rules) (search rules) _ _ size.0 (omega arith) e, omega (arith, ints, size.1), omega (arith, ints, size.1))

pub returns-in_ok-unsigned-in_default : goal.returns-in_ok-unsigned-in_default
returns-in_ok-unsigned-in_default c =
    let size = c.in_ok-unsigned-in_default.ensures in
    let e : to_z w32 c.in_ok-unsigned-in_default.field-0 ≡ pos c.in_ok-unsigned-in_default.field-0 = omega (arith, ints, size.1) in
    (rw e (plain size.0), omega (arith, ints, size.1), omega (arith, ints, size.1))
