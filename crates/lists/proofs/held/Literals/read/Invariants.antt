use Rattle.std.proofs.Common.{◌≡◌, false, map, take}
use Rattle.bounded.specs.Held.{held}
use Rattle.literals.specs.Literals.{number}
use Rattle.lists.specs.Lists.{some_outside}
use Rattle.lists.proofs.held.Literals.read.Given as goal

abbrev pub invariant-loop-n : goal.invariant-loop-n
invariant-loop-n l = (some_outside (take l.n-index l.numbers) ≡ false) × (map number (held l.items) ≡ take l.n-index l.numbers)
