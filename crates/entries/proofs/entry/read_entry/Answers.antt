use Rattle.std.proofs.Common.{rules}
use Rattle.std.proofs.lemmas.List.{length-append}
use Rattle.std.proofs.lemmas.Result.{err_from_is_err_and}
use Rattle.std.proofs.lemmas.Slice.Zip.{zip_turn, zip_end}
use Rattle.entries.proofs.Entries.{one_read, one_refused, line_read}
use Rattle.entries.proofs.entry.read_entry.Goals as goal

pub returns-in_err-entry : goal.returns-in_err-entry
returns-in_err-entry c =
    let turn = zip_turn c.args.order.columns c.args.line.now.fields _ _ _ c.next.new.self _ (search rules) (search rules) c.loop-column.yielded_by _ c.in-Some.is c.next.ensures.steps in
    let handed = err_from_is_err_and c.from_residual.result c.from_residual.ensures.1 in
    let bad = c.in_err-entry.ensures in
    rw (handed.1, handed.2) (one_refused _ _ _ _ _ _ c.loop-column.invariant.read turn _ _ bad.0 bad.1 bad.2)

pub loop-column-preserved : goal.loop-column-preserved
loop-column-preserved c =
    let turn = zip_turn c.args.order.columns c.args.line.now.fields _ _ _ c.next.new.self _ (search rules) (search rules) c.loop-column.yielded_by _ c.in-Some.is c.next.ensures.steps in
    let good = c.in_ok-entry.ensures in
    let read = one_read _ _ _ _ _ _ c.loop-column.invariant.read turn _ c.args.order.once good.0 good.1 in
    record { can_next = (tt, tt); is_finite = tt; read = simp length-append read }

pub returns : goal.returns
returns c =
    let end = zip_end c.args.order.columns c.args.line.now.fields _ _ _ c.next.new.self _ (search rules) (search rules) c.loop-column.yielded_by c.in-None.is c.next.ensures.steps in
    record { fields = line_read _ _ _ _ c.args.order.five (search rules) end c.loop-column.invariant.read }
