use Rattle.std.proofs.Common.{ℕ, ◌<◌, ◌≢◌, get_or}
use Rattle.entries.specs.declared.column.Column.{Column}
use Rattle.entries.proofs.names.all_differ.Given as goal

-- none of the columns before i comes twice
abbrev pub invariant-loop-i : goal.invariant-loop-i
invariant-loop-i l = (j : ℕ) → j < l.i → (i : ℕ) (d : Column) → i < j → get_or l.columns i d ≢ get_or l.columns j d
