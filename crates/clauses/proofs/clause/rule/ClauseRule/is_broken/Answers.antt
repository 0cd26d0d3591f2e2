use Rattle.std.proofs.Common.{◌≡◌, Bool, not, List, ap, ◌∙◌, arith}
use Rattle.literals.specs.declared.literal.Literal.{Literal}
use Rattle.clauses.specs.Clauses.{all_false}
use Rattle.clauses.specs.Openness.{none_open}
use Rattle.clauses.proofs.clause.rule.ClauseRule.is_broken.Goals as goal

turned : (a b : Bool) → a ≡ not b → b ≡ not a
turned a b e = grind arith

pub returns : goal.returns
returns c =
    let s = c.args.set.now in
    turned _ _ c.is_none.ensures ∙ none_open s c.literals.result.now c.first_open.result c.first_open.ensures
    ∙ ap (λ (ls : List Literal). all_false s ls) c.literals.ensures.value
