use Rattle.runs.proofs.Whole.{laws}
use Rattle.runs.proofs.laws.laws_over_runs.Goals as goal

pub returns : goal.returns
returns g c = record { laws = laws (g.S.Shelf.rules c.args.shelf.now) (g.met.S.Shelf.lawful c.args.shelf.now) }
