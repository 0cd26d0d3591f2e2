use Rattle.std.proofs.Common.{rules}
use Rattle.lines.proofs.Lines.{no_line}
use Rattle.lines.proofs.reading.read_line.Goals as goal

pub returns-in_err-fields-clause-reads : goal.returns-in_err-fields-clause-reads
returns-in_err-fields-clause-reads c = rw c.from_residual.ensures (search (rules, no_line, c.in_err-fields.ensures.reads.0))
