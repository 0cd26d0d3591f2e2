use Rattle.std.proofs.Common.{sym}
use Rattle.rules.proofs.Numbers.{silent_more, silent_all}
use Rattle.rules.proofs.scan.Goals as goal

pub loop-i-preserved : goal.loop-i-preserved
loop-i-preserved g c =
    silent_more g.R.Rule.breaks c.args.records.now c.args.set.now c.loop-i.i c.index-records-i.result c.loop-i-test.true c.index-records-i.is c.loop-i.invariant
    (record { unbroken = sym c.if-is_broken.ensures; still = c.in_default.ensures })

pub returns : goal.returns
returns g c = silent_all g.R.Rule.breaks c.args.records.now c.args.set.now c.loop-i.i c.loop-i-test.false c.loop-i.invariant
