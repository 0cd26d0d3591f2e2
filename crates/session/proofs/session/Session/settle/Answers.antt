use Rattle.std.proofs.Common.{◌≡◌, ◌+◌, ◌-◌, length, arith}
use Rattle.told.specs.Trails.{items_of}
use Rattle.session.specs.Logs.{view_of}
use Rattle.session.proofs.Ties.{refused_settle, settle_quiet, settle_broken, settles_longer, broken_there, ran_does, next}
use Rattle.session.proofs.session.Session.settle.Goals as goal
use Rattle.session.proofs.session.Session.settle.Goals.{in-None, in-Some+in-Ok}

pub returns-in_err-admit-clause-does : goal.returns-in_err-admit-clause-does
returns-in_err-admit-clause-does g c = rw (← c.self.view_is) (refused_settle _ _ c.from_residual.result _ c.from_residual.ensures.1 c.in_err-admit.ensures)

pub invariant_of-self : goal.invariant_of-self
invariant_of-self g c =
    let x = c.self.inside.tied.log in
    let settle = c.settle.ensures in
    let does = (ran_does _ x c.settle.new.self.log c.settle.result c.in_ok-admit.ensures settle.ran).1 in
    record { told = settle.told; reached = next _ (view_of x) c.self.invariant.reached _ _ _ _ does settle.rules }

pub overflow_sub-grown : goal.overflow_sub-grown
overflow_sub-grown g c = let longer = settles_longer _ _ c.in-None.ensures.ran.settles in omega (arith, longer, c.count-before.ensures, c.count.ensures)

pub unreachable-requires : goal.unreachable-requires
unreachable-requires g c =
    let p = c.in-Some.ensures in
    let x = c.self.inside.tied in
    let y = c.settle.new.self in
    broken_there (g.S.Shelf.rules x.shelf) (g.S.Shelf.rules y.shelf) x.log y.log c.in-Some.rule c.in_default.field-0 p.rules p.ran c.in_default.ensures.refused

pub returns-clause-does : goal.returns-clause-does
returns-clause-does g c =
    let x = c.self.inside.tied.log in
    let h = c.settle.new.self.log in
    let before = c.count-before in
    rw (← c.self.view_is)
    (elim c.match-settle.branch [
      | in-None w ↦
          let ran = w.in-None.ensures.ran in
          let longer = settles_longer _ _ ran.settles in
          let grown : length (items_of x.trail) + (w.count.result - before.result) ≡ length (items_of h.trail) = omega (arith, longer, before.ensures, w.count.ensures) in
          rw w.result-is (settle_quiet _ x h (w.count.result - before.result) c.in_ok-admit.ensures ran grown)
      | in-Some+in-Ok w ↦
          let some = w.in-Some.ensures in
          rw w.result-is (settle_broken _ x h w.in-Some.rule w.in-Ok.letter c.in_ok-admit.ensures some.ran (rw some.rules at w.in-Ok.ensures.is))
    ])

pub returns-clause-sound : goal.returns-clause-sound
returns-clause-sound g c = invariant_of-self g c
