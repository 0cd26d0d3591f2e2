use Rattle.std.proofs.Common.{refl, inl, inr}
use Rattle.std.proofs.lemmas.List.{take_rest}
use Rattle.cursor.proofs.Fields.{none_here, other_here, not_plain}
use Rattle.cursor.proofs.reader.Reader.field_before.Goals as goal
use Rattle.cursor.proofs.reader.Reader.field_before.Goals.{then-end-eq0-via-then-end-eq0, then-end-eq0-via-else-end-eq0+then-rest-end}

pub returns-in_err-end-clause-reads : goal.returns-in_err-end-clause-reads
returns-in_err-end-clause-reads c =
    rw c.from_residual.ensures (none_here _ _ _ c.args.self.now.ok (not_plain c.args.close) (rw take_rest at c.in_err-end.ensures), refl)

pub returns-then-end-eq0-clause-reads : goal.returns-then-end-eq0-clause-reads
returns-then-end-eq0-clause-reads c = (
  other_here _ _ _ _ c.args.self.now.ok (not_plain c.args.close) (rw take_rest at c.in_ok-end.ensures.0) (elim c.then-end-eq0.branch [
    | then-end-eq0-via-then-end-eq0 w ↦ inl w.if-end-eq0.true
    | then-end-eq0-via-else-end-eq0+then-rest-end w ↦ inr (rw (take_rest, w.byte.ensures) at w.if-rest-end.true)
  ]),
  refl,
)
