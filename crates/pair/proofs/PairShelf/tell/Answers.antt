use Rattle.std.proofs.Common.{ℤ, ap, ◌∙◌, w16, to_z, of_z}
use Rattle.std.proofs.lemmas.Result.{MatchResult-from_err}
use Rattle.pair.proofs.Joining.{both_tell, same_told}
use Rattle.pair.proofs.Splitting.{split_same}
use Rattle.pair.proofs.PairShelf.tell.Goals as goal

-- the first shelf is as it was, so the pair is
pub returns-in_err-tell-clause-told : goal.returns-in_err-tell-clause-told
returns-in_err-tell-clause-told g c =
    let p = c.self.inside in
    MatchResult-from_err c.from_residual.result _ _ c.from_residual.ensures.0
    (λ x. ap (λ first. record { first = first; second = p.second; split = p.split }) c.in_err-tell.ensures.told ∙ c.self.view_is)

pub invariant_of-self-2 : goal.invariant_of-self-2
invariant_of-self-2 g c =
    let a = g.A.Shelf in
    let b = g.B.Shelf in
    let p = c.self.inside in
    let m : ℤ = to_z w16 (of_z w16 c.args.n) in
    let one = c.in_ok-tell.ensures in
    let two = c.tell-2.ensures in
    let both = both_tell _ c.tell-2.result (a.told p.first) (b.told p.second) (b.told c.tell-2.new.self) m c.self.invariant.same one.refused two.refused two.told in
    record {
      same = same_told (a.told p.first) (b.told p.second) (a.told c.tell.new.self) (b.told c.tell-2.new.self) m c.self.invariant.same one.told both;
      splits = c.self.invariant.splits ∙ split_same (a.rules p.first) (b.rules p.second) _ _ one.rules two.rules;
    }

pub returns-clause-joined : goal.returns-clause-joined
returns-clause-joined g c = invariant_of-self-2 g c
