use Rattle.std.proofs.Common.{ℤ, ◌∙◌, subst, w64, SFits, rules}
use Rattle.std.proofs.lemmas.Int.{to_z-of_z}
use Rattle.linear.specs.Slacks.{FirstAbove}
use Rattle.linear.specs.Linears.{terms_of}
use Rattle.linear.proofs.Forcing.{first_forced}
use Rattle.linear.proofs.linear.rule.LinearRule.first_forced.Goals as goal

pub returns : goal.returns
returns c =
    let r = c.args.self.now in
    let s = c.args.set.now in
    let fits : SFits w64 c.slack-slack.result = search rules in
    first_forced (terms_of r) r.degree s r.terms.once c.first_above.result
    (subst (λ (z : ℤ). FirstAbove (terms_of r) z s c.first_above.result) (to_z-of_z w64 _ fits ∙ c.slack-slack.ensures) c.first_above.ensures)
