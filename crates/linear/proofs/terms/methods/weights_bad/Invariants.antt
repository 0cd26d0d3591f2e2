use Rattle.std.proofs.Common.{◌≡◌, drop}
use Rattle.linear.specs.Terms.{bad_after, bad_weights}
use Rattle.linear.proofs.terms.methods.weights_bad.Given as goal

abbrev pub invariant-loop-w : goal.invariant-loop-w
invariant-loop-w l = bad_after l.before (drop l.w-index l.weights) ≡ bad_weights l.weights
