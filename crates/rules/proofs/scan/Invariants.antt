use Rattle.rules.proofs.Numbers.{SilentTo}
use Rattle.rules.proofs.scan.Given as goal

abbrev pub invariant-loop-i : goal.invariant-loop-i
invariant-loop-i g l = SilentTo g.R.Rule.breaks l.records l.set l.i
