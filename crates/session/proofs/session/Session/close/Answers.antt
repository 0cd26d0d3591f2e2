use Rattle.std.proofs.Common.{ap}
use Rattle.session.specs.Logs.{view_of}
use Rattle.session.proofs.Ties.{refused_spent, close_done, next}
use Rattle.session.proofs.session.Session.close.Goals as goal

pub returns-in_err-spend-clause-does : goal.returns-in_err-spend-clause-does
returns-in_err-spend-clause-does g c = refused_spent _ _ _ c.from_residual.result _ c.from_residual.ensures.1 c.in_err-spend.ensures.0

pub invariant_of-self : goal.invariant_of-self
invariant_of-self g c =
    let x = view_of c.self.inside.tied.log in
    let shut = c.shut.ensures in
    let spend = rw (← c.self.view_is) at c.in_ok-spend.ensures in
    record { told = shut.told; reached = next _ x c.self.invariant.reached _ _ _ _ (close_done _ x _ c.args.receipt.clash spend shut.view) (ap g.S.Shelf.rules shut.shelf) }

pub returns-clause-does : goal.returns-clause-does
returns-clause-does g c =
    let spend = rw (← c.self.view_is) at c.in_ok-spend.ensures in
    rw (← c.self.view_is) (close_done _ (view_of c.self.inside.tied.log) _ c.args.receipt.clash spend c.shut.ensures.view)

pub returns-clause-sound : goal.returns-clause-sound
returns-clause-sound g c = invariant_of-self g c
