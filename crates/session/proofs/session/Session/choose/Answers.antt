use Rattle.std.proofs.Common.{◌∙◌, w32, arith}
use Rattle.std.proofs.lemmas.Int.{to_z-of_z}
use Rattle.session.specs.Logs.{view_of}
use Rattle.session.specs.Sessions.{seen}
use Rattle.session.proofs.Ties.{refused_done, choose_outside, choose_free, choose_done, level_small, next}
use Rattle.session.proofs.session.Session.choose.Goals as goal

pub returns-in_err-literal-clause-does : goal.returns-in_err-literal-clause-does
returns-in_err-literal-clause-does g c =
    refused_done _ (seen c.args.self.now) _ c.from_residual.result _ c.from_residual.ensures.1 (choose_outside (seen c.args.self.now) c.args.n _ (simp (to_z-of_z, c.ranges.n) at c.in_err-literal.ensures.refused))

pub returns-in_err-admit-clause-does : goal.returns-in_err-admit-clause-does
returns-in_err-admit-clause-does g c =
    let r = c.from_residual-in_err-admit in
    rw (← c.self.view_is) (refused_done _ (view_of c.self.inside.tied.log) _ r.result _ r.ensures.1 (simp (to_z-of_z, c.ranges.n) at c.in_err-admit.ensures))

pub choose-requires-clause-free : goal.choose-requires-clause-free
choose-requires-clause-free g c = choose_free (view_of c.self.inside.tied.log) c.in_ok-literal.literal _ c.in_ok-literal.ensures.literal c.in_ok-admit.ensures

pub choose-requires-clause-low : goal.choose-requires-clause-low
choose-requires-clause-low g c = let h = level_small _ (view_of c.self.inside.tied.log) ∣ c.self.invariant.reached ∣₁ in omega arith

pub invariant_of-self : goal.invariant_of-self
invariant_of-self g c =
    let x = view_of c.self.inside.tied.log in
    let chose = c.choose.ensures in
    let d = choose_done _ x (view_of c.choose.new.self.log) c.in_ok-literal.literal c.args.n (simp (to_z-of_z, c.ranges.n) at c.in_ok-admit.ensures)
    (c.in_ok-literal.ensures.literal ∙ to_z-of_z w32 c.args.n c.ranges.n) chose.steps chose.state chose.level in
    record { told = chose.told; reached = next _ x c.self.invariant.reached _ _ _ _ d chose.rules }

pub returns-clause-does : goal.returns-clause-does
returns-clause-does g c =
    let chose = c.choose.ensures in
    rw (← c.self.view_is)
    (choose_done _ (view_of c.self.inside.tied.log) (view_of c.choose.new.self.log) c.in_ok-literal.literal c.args.n (simp (to_z-of_z, c.ranges.n) at c.in_ok-admit.ensures)
    (c.in_ok-literal.ensures.literal ∙ to_z-of_z w32 c.args.n c.ranges.n) chose.steps chose.state chose.level)

pub returns-clause-sound : goal.returns-clause-sound
returns-clause-sound g c = invariant_of-self g c

pub returns-in_err-literal-clause-sound : goal.returns-in_err-literal-clause-sound
returns-in_err-literal-clause-sound g c = record { told = c.laws.ensures.told; reached = c.laws.ensures.reached }
