use Rattle.std.proofs.Common.{◌≡◌, length, take}
use Rattle.bounded.specs.Held.{held}
use Rattle.linear.specs.Terms.{literals, weights}
use Rattle.linear.proofs.terms.Terms.read.Given as goal

abbrev pub invariant-loop-weight : goal.invariant-loop-weight
invariant-loop-weight l = (weights (held l.items) ≡ take (length l.yielded) l.weights) × (literals (held l.items) ≡ take (length l.yielded) l.initial.weight-iterator.b.rest.now)
