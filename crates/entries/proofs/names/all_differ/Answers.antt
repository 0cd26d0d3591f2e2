use Rattle.std.proofs.Common.{below_more}
use Rattle.entries.proofs.Columns.{one_more}
use Rattle.entries.proofs.names.all_differ.Goals as goal

pub loop-i-preserved : goal.loop-i-preserved
loop-i-preserved c =
    let new = c.if-is_among.ensures.1 in
    below_more _ _ c.loop-i.invariant (one_more _ _ _ c.loop-i-test.true (λ m. let both = new m in cc))
