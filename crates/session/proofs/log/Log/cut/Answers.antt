use Rattle.std.proofs.Common.{sym}
use Rattle.session.proofs.Cutting.{front_from}
use Rattle.session.proofs.log.Log.cut.Goals as goal

pub returns-clause-front : goal.returns-clause-front
returns-clause-front c =
    let front = c.front-left.ensures in
    rw (sym c.as_slice.ensures) (front_from c.args.k c.as_slice.result.now c.front-left.result front.few front.above front.last)
