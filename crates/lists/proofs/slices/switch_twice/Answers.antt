use Rattle.std.proofs.Common.{not, sym, ap, ◌∙◌}
use Rattle.lists.proofs.Sets.{twice_here, new_here}
use Rattle.lists.proofs.slices.switch_twice.Goals as goal

pub returns-then-not-is_free : goal.returns-then-not-is_free
returns-then-not-is_free c =
    let twice = twice_here c.args.literals.now c.loop-l.l-index c.l-item.result c.loop-l.seen c.loop-l-test.true c.l-item.is in
    ap not (sym (twice c.loop-l.invariant.1 (sym c.is_free.ensures ∙ c.if-not-is_free.true)))

pub loop-l-preserved : goal.loop-l-preserved
loop-l-preserved c =
    let new = new_here c.args.literals.now c.loop-l.l-index c.l-item.result c.loop-l.seen c.loop-l-test.true c.l-item.is in
    new c.with-seen.result c.loop-l.invariant.0 c.loop-l.invariant.1 (sym c.is_free.ensures ∙ c.if-not-is_free.false) c.with-seen.ensures.words
