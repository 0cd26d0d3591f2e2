use Rattle.std.proofs.Common.{ℕ, not, eqb, ◌∙◌, rules}
use Rattle.std.proofs.lemmas.Iterator.{YieldsList-from_slice}
use Rattle.std.proofs.lemmas.Iterator.Search.{any_from_yields_List}
use Rattle.stated.proofs.Checking.{any_not_one}
use Rattle.stated.proofs.clause.not_ones.Goals as goal

pub returns : goal.returns
returns c =
    let ws = c.args.weights.now in
    any_from_yields_List (λ (w : ℕ). not (eqb w 1)) _ _ _ c.any.ensures.ran (YieldsList-from_slice ws cc) (λ x b q k. search rules) ∙ any_not_one ws
