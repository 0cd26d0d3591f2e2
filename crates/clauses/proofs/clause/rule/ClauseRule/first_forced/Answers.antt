use Rattle.std.proofs.Common.{◌≡◌, true, List, MatchOption, subst, rules}
use Rattle.literals.specs.declared.literal.Literal.{Literal}
use Rattle.clauses.specs.Clauses.{all_false, literals_in}
use Rattle.clauses.specs.Openings.{FirstOpen}
use Rattle.clauses.proofs.Forcing.{forced_first}
use Rattle.clauses.proofs.clause.rule.ClauseRule.first_forced.Goals as goal

pub returns : goal.returns
returns c =
    let s = c.args.set.now in
    let o = c.first_open.result in
    let first = subst (λ (ls : List Literal). MatchOption o (all_false s ls ≡ true) (FirstOpen s ls)) c.literals.ensures.value c.first_open.ensures in
    forced_first s (literals_in c.args.self.now) _ (λ l b h. search rules) o c.filter.result first c.filter.ensures
