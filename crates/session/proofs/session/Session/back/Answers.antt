use Rattle.session.specs.Logs.{view_of}
use Rattle.session.proofs.Ties.{refused_done, dropped, back_done, next}
use Rattle.session.proofs.session.Session.back.Goals as goal

pub returns-in_err-admit-clause-does : goal.returns-in_err-admit-clause-does
returns-in_err-admit-clause-does g c = rw (← c.self.view_is) (refused_done _ _ _ c.from_residual.result _ c.from_residual.ensures.1 c.in_err-admit.ensures)

pub invariant_of-self : goal.invariant_of-self
invariant_of-self g c =
    let x = c.self.inside.tied in
    let drop = c.drop_above.ensures in
    let e = dropped _ x.log c.drop_above.new.self.log c.args.k ∣ c.self.invariant.reached ∣₁ drop.cut drop.state drop.level in
    record { told = drop.told; reached = next _ (view_of x.log) c.self.invariant.reached _ _ _ _ (back_done _ (view_of x.log) _ c.args.k c.in_ok-admit.ensures e) drop.rules }

pub returns-clause-does : goal.returns-clause-does
returns-clause-does g c =
    let x = c.self.inside.tied in
    let drop = c.drop_above.ensures in
    rw (← c.self.view_is) (back_done _ (view_of x.log) _ c.args.k c.in_ok-admit.ensures (dropped _ x.log c.drop_above.new.self.log c.args.k ∣ c.self.invariant.reached ∣₁ drop.cut drop.state drop.level))

pub returns-clause-sound : goal.returns-clause-sound
returns-clause-sound g c = invariant_of-self g c
