use Rattle.told.specs.Trails.{items_of}
use Rattle.session.proofs.Ties.{cut_told}
use Rattle.session.proofs.tied.Tied.drop_above.Goals as goal

pub returns-clause-told : goal.returns-clause-told
returns-clause-told g c =
    let x = c.args.self.now in
    let cut = c.cut-left.ensures in
    let back = c.take_back.ensures in
    cut_told _ (items_of x.log.trail) (items_of c.cut-left.new.self.trail) c.args.k _ _ c.take_back.result (record { left = c.cut-left.result; front = cut.front; is = cut.steps }) c.requires.told back.refused back.told
