use Rattle.std.proofs.Common.{arith}
use Rattle.numerals.proofs.Reading.{room}
use Rattle.numerals.proofs.value.Goals as goal

pub overflow_mul-n : goal.overflow_mul-n
overflow_mul-n c = omega (arith, room _ _ c.loop-digit.invariant.small (omega arith))

pub overflow_add-n : goal.overflow_add-n
overflow_add-n c = omega (arith, room _ _ c.loop-digit.invariant.small (omega arith), c.requires.digits c.loop-digit.digit-index (omega arith), c.from.ensures)
