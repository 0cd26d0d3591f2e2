use Rattle.std.proofs.Common.{◌≡◌, true, not, MatchOption, Option, sym, ◌∙◌, subst, rules}
use Rattle.std.proofs.lemmas.Iterator.{YieldsList-from_slice}
use Rattle.std.proofs.lemmas.Iterator.Adapters.{option_map_id}
use Rattle.std.proofs.lemmas.Iterator.Consumers.{YieldsList-from_copied}
use Rattle.std.proofs.lemmas.Iterator.Search.{find_from_yields_List}
use Rattle.literals.specs.declared.literal.Literal.{Literal}
use Rattle.literals.specs.Literals.{opposite}
use Rattle.literals.specs.Settings.{stands}
use Rattle.clauses.specs.Clauses.{all_false}
use Rattle.clauses.specs.Openings.{FirstOpen}
use Rattle.clauses.proofs.Forcing.{found_open}
use Rattle.clauses.proofs.clause.rule.first_open.Goals as goal

pub returns : goal.returns
returns c =
    let s = c.args.set.now in
    let ls = c.args.literals.now in
    let found = find_from_yields_List (λ (l : Literal). not (stands s (opposite l))) _ _ _ c.find.ensures.ran (YieldsList-from_copied (YieldsList-from_slice ls cc)) (λ x b q k. search rules) in
    subst (λ (o : Option Literal). MatchOption o (all_false s ls ≡ true) (FirstOpen s ls)) (sym found ∙ option_map_id c.find.result) (found_open s ls)
