use Rattle.std.proofs.Common.{true, false, refl}
use Rattle.literals.specs.Literals.{opposite}
use Rattle.literals.specs.Settings.{stands}
use Rattle.session.proofs.Telling.{positioned}
use Rattle.session.proofs.position.Position.of.Goals as goal

pub returns-then-stands-clause-position : goal.returns-then-stands-clause-position
returns-then-stands-clause-position c =
    let l = c.in_ok-on.on in
    let s = c.args.set.now in
    positioned s l c.args.switch true (stands s (opposite l)) c.in_ok-on.ensures.switch c.in_ok-on.ensures.on c.if-stands.ensures refl

pub returns-then-is_false-clause-position : goal.returns-then-is_false-clause-position
returns-then-is_false-clause-position c =
    positioned c.args.set.now c.in_ok-on.on c.args.switch false true c.in_ok-on.ensures.switch c.in_ok-on.ensures.on c.if-stands.ensures c.if-is_false.ensures

pub returns-else-is_false-clause-position : goal.returns-else-is_false-clause-position
returns-else-is_false-clause-position c =
    positioned c.args.set.now c.in_ok-on.on c.args.switch false false c.in_ok-on.ensures.switch c.in_ok-on.ensures.on c.if-stands.ensures c.if-is_false.ensures
