use Rattle.std.proofs.Common.{take, length}
use Rattle.entries.proofs.Entries.{Read}
use Rattle.entries.proofs.entry.read_entry.Given as goal

abbrev pub invariant-loop-column : goal.invariant-loop-column
invariant-loop-column l = record {
  can_next : (goal.iterator-loop-column).can_next l.column-iterator;
  is_finite : (goal.iterator-loop-column).is_finite l.column-iterator;
  read : Read (take (length l.yielded) l.fn.order.columns) (take (length l.yielded) l.line.fields) l.entry;
}
