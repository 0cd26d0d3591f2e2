use Rattle.std.proofs.Common.{◌≡◌, map, take}
use Rattle.bounded.specs.Held.{held}
use Rattle.linear.specs.Terms.{turned}
use Rattle.linear.proofs.terms.Terms.opposites.Given as goal

abbrev pub invariant-loop-t : goal.invariant-loop-t
invariant-loop-t l = held l.items ≡ map turned (take l.t-index l.t-items)
