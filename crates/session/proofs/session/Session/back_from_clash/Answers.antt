use Rattle.session.specs.Logs.{view_of}
use Rattle.session.proofs.Ties.{refused_spent, dropped, back_from_done, next}
use Rattle.session.proofs.session.Session.back_from_clash.Goals as goal

pub returns-in_err-spend-clause-does : goal.returns-in_err-spend-clause-does
returns-in_err-spend-clause-does g c = refused_spent _ _ _ c.from_residual.result _ c.from_residual.ensures.1 c.in_err-spend.ensures.0

pub invariant_of-self : goal.invariant_of-self
invariant_of-self g c =
    let x = c.self.inside.tied in
    let drop = c.drop_above.ensures in
    let spend = rw (← c.self.view_is) at c.in_ok-spend.ensures in
    let e = dropped _ x.log c.drop_above.new.self.log c.args.k ∣ c.self.invariant.reached ∣₁ drop.cut drop.state drop.level in
    record { told = drop.told; reached = next _ (view_of x.log) c.self.invariant.reached _ _ _ _ (back_from_done _ (view_of x.log) _ c.args.receipt.clash c.args.k spend e) drop.rules }

pub returns-clause-does : goal.returns-clause-does
returns-clause-does g c =
    let x = c.self.inside.tied in
    let drop = c.drop_above.ensures in
    let spend = rw (← c.self.view_is) at c.in_ok-spend.ensures in
    rw (← c.self.view_is) (back_from_done _ (view_of x.log) _ c.args.receipt.clash c.args.k spend (dropped _ x.log c.drop_above.new.self.log c.args.k ∣ c.self.invariant.reached ∣₁ drop.cut drop.state drop.level))

pub returns-clause-sound : goal.returns-clause-sound
returns-clause-sound g c = invariant_of-self g c
