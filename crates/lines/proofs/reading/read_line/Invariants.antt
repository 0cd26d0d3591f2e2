use Rattle.std.proofs.Common.{◌≡◌, length}
use Rattle.lines.proofs.Lines.{ReadSoFar}
use Rattle.lines.proofs.reading.read_line.Given as goal

abbrev pub invariant-loop-i : goal.invariant-loop-i
invariant-loop-i l = record {
  long : length l.fields ≡ 5;
  text : l.ahead.text.now ≡ l.fn.reader.text.now;
  read : ReadSoFar l.fn.reader.text.now l.fn.reader.at l.fields l.i l.ahead.at;
}
