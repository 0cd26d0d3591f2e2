use Rattle.std.proofs.Common.{◌≡◌, map, take}
use Rattle.bounded.specs.Held.{held}
use Rattle.literals.specs.Literals.{opposite}
use Rattle.lists.proofs.held.Literals.opposites.Given as goal

abbrev pub invariant-loop-l : goal.invariant-loop-l
invariant-loop-l l = held l.items ≡ map opposite (take l.l-index l.l-items)
