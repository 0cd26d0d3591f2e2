use Rattle.std.proofs.Common.{◌+◌, length}
use Rattle.reasons.specs.Whys.{Sought}
use Rattle.reasons.proofs.Reasoning.reached.Given as goal

abbrev pub invariant-loop-left : goal.invariant-loop-left
invariant-loop-left g l = Sought (g.S.Shelf.rules l.self.shelf.now) l.self.steps.now (l.place + 1) l.left l.marked l.chosen

abbrev pub decreases-loop-left : goal.decreases-loop-left
decreases-loop-left g l = length l.left
