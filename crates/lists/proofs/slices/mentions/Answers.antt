use Rattle.std.proofs.Common.{eqb, ◌∙◌, rules}
use Rattle.std.proofs.lemmas.Iterator.{YieldsList-from_slice}
use Rattle.std.proofs.lemmas.Iterator.Search.{any_from_yields_List}
use Rattle.literals.specs.declared.literal.Literal.{Literal}
use Rattle.lists.proofs.Distinct.{any_mentioned}
use Rattle.lists.proofs.slices.mentions.Goals as goal

pub returns : goal.returns
returns c =
    let ls = c.args.literals.now in
    any_from_yields_List (λ (l : Literal). eqb l.switch c.args.switch) _ _ _ c.any.ensures.ran (YieldsList-from_slice ls cc) (λ x b q k. search rules)
    ∙ any_mentioned ls c.args.switch
