use Rattle.std.proofs.Common.{sym, ◌∙◌}
use Rattle.session.specs.Sessions.{seen}
use Rattle.script.proofs.Likeness.{alike_by, reached_agree}
use Rattle.script.proofs.comparing.alike.Goals as goal

pub returns-then-level-clause-alike : goal.returns-then-level-clause-alike
returns-then-level-clause-alike g c =
    let x = c.args.first.now in
    let y = c.args.second.now in
    alike_by (seen x) (seen y) x.tied.log.trail.once y.tied.log.trail.once c.standing.result.now c.standing-then-level.result.now c.eq.result
    (sym c.level.ensures ∙ c.if-level.true ∙ c.level-2.ensures) c.standing.ensures c.standing-then-level.ensures c.eq.ensures

pub returns-then-level-clause-agree : goal.returns-then-level-clause-agree
returns-then-level-clause-agree g c =
    let x = c.laws.ensures in
    let y = c.laws-2.ensures in
    reached_agree _ _ (seen c.args.first.now) (seen c.args.second.now) x.laws y.laws y.lawful ∣ x.reached ∣₁ ∣ y.reached ∣₁

pub returns-else-level-clause-agree : goal.returns-else-level-clause-agree
returns-else-level-clause-agree g c =
    let x = c.laws.ensures in
    let y = c.laws-2.ensures in
    reached_agree _ _ (seen c.args.first.now) (seen c.args.second.now) x.laws y.laws y.lawful ∣ x.reached ∣₁ ∣ y.reached ∣₁
