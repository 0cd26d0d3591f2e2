use Rattle.std.proofs.Common.{eqb, ◌∙◌, rules}
use Rattle.std.proofs.lemmas.Iterator.{YieldsList-from_slice}
use Rattle.std.proofs.lemmas.Iterator.Search.{any_from_yields_List}
use Rattle.linear.specs.declared.term.Term.{Term}
use Rattle.linear.specs.Linears.{terms_of}
use Rattle.linear.proofs.Weights.{any_mentions}
use Rattle.linear.proofs.linear.rule.LinearRule.mentions_switch.Goals as goal

pub returns : goal.returns
returns c =
    let n = c.args.switch in
    let ts = terms_of c.args.self.now in
    any_from_yields_List (λ (t : Term). eqb t.literal.switch n) _ _ _ c.any.ensures.ran (YieldsList-from_slice ts (c.iter.ensures.rest ∙ c.terms.ensures.value)) (λ x b q k. search rules)
    ∙ any_mentions ts n
