use Rattle.std.proofs.Common.{◌≡◌, ◌-◌, length}
use Rattle.told.specs.Trails.{items_of}
use Rattle.session.specs.Logs.{TrailTold}
use Rattle.session.proofs.Settling.{Going}
use Rattle.session.proofs.tied.Tied.settle.Given as goal

abbrev pub invariant-loop-self : goal.invariant-loop-self
invariant-loop-self g l =
    let rules = g.S.Shelf.rules in
    (rules l.self.shelf ≡ rules l.initial.self.shelf) × Going (rules l.initial.self.shelf) l.initial.self.log l.self.log × TrailTold (g.S.Shelf.told l.self.shelf) l.self.log

abbrev pub decreases-loop-self : goal.decreases-loop-self
decreases-loop-self g l = 64 - length (items_of l.self.log.trail)
