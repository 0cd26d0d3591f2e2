use Rattle.session.proofs.Ties.{none_left, opened_tied}
use Rattle.session.proofs.tied.Tied.new.Goals as goal

pub returns-clause-told : goal.returns-clause-told
returns-clause-told g c =
    let back = c.take_back.ensures in
    (opened_tied (g.S.Shelf.rules c.args.shelf) _ c.new.result (none_left _ c.take_back.result _ _ back.refused back.told) c.new.ensures).told
