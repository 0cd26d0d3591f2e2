use Rattle.runs.proofs.Whole.{laws}
use Rattle.session.specs.Logs.{view_of}
use Rattle.session.proofs.Ties.{opened_reached}
use Rattle.session.proofs.session.Session.open.Goals as goal

pub invariant_of-result : goal.invariant_of-result
invariant_of-result g c = record { told = c.new.ensures.told; reached = opened_reached _ (view_of c.new.result.log) c.new.ensures.view }

pub returns-clause-laws : goal.returns-clause-laws
returns-clause-laws g c = laws _ (g.met.S.Shelf.lawful c.args.shelf)

pub returns-clause-sound : goal.returns-clause-sound
returns-clause-sound g c = invariant_of-result g c
