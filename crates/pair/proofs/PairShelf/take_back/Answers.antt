use Rattle.std.proofs.Common.{ap, ◌∙◌}
use Rattle.std.proofs.lemmas.Result.{MatchResult-from_err}
use Rattle.pair.proofs.PairShelf.take_back.Goals as goal

-- the first shelf is as it was, so the pair is
pub returns-in_err-take_back-clause-told : goal.returns-in_err-take_back-clause-told
returns-in_err-take_back-clause-told g c =
    let p = c.self.inside in
    MatchResult-from_err c.from_residual.result _ _ c.from_residual.ensures.0
    (λ x. ap (λ first. record { first = first; second = p.second; split = p.split }) c.in_err-take_back.ensures.told ∙ c.self.view_is)
