use Rattle.std.proofs.Common.{sym, ◌∙◌}
use Rattle.std.proofs.lemmas.List.{at_drop_all}
use Rattle.linear.specs.Terms.{bad_after}
use Rattle.linear.proofs.Checking.{bad_zero, bad_rise, good_more}
use Rattle.linear.proofs.terms.methods.weights_bad.Goals as goal
use Rattle.linear.proofs.terms.methods.weights_bad.Goals.{then-w-eq0-via-then-w-eq0, then-w-eq0-via-else-w-eq0+then-w-before}

pub returns-then-w-eq0 : goal.returns-then-w-eq0
returns-then-w-eq0 c =
    let ws = c.args.weights.now in
    let i = c.loop-w.w-index in
    elim c.then-w-eq0.branch [
      | then-w-eq0-via-then-w-eq0 w ↦ sym (bad_zero ws i c.loop-w.before c.loop-w-test.true w.if-w-eq0.true) ∙ c.loop-w.invariant
      | then-w-eq0-via-else-w-eq0+then-w-before w ↦ sym (bad_rise ws i c.loop-w.before c.loop-w-test.true w.if-w-before.true) ∙ c.loop-w.invariant
    ]

pub loop-w-preserved : goal.loop-w-preserved
loop-w-preserved c =
    sym (good_more c.args.weights.now c.loop-w.w-index c.loop-w.before c.loop-w-test.true c.if-w-eq0.false c.if-w-before.false) ∙ c.loop-w.invariant

pub returns : goal.returns
returns c = sym (at_drop_all (bad_after c.loop-w.before) c.args.weights.now c.loop-w.w-index c.loop-w-test.false) ∙ c.loop-w.invariant
