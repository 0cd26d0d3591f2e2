use Rattle.std.proofs.Common.{◌≡◌, ◌<◌, get_or, length, ℤ, pos, sym, ◌∙◌, arith, w16, to_z, of_z, rules}
use Rattle.std.proofs.lemmas.List.{get_or_default}
use Rattle.std.proofs.lemmas.Result.{err_from_is_err_and}
use Rattle.bounded.specs.Held.{held}
use Rattle.bounded.proofs.Lengths.{pushed_on}
use Rattle.literals.specs.Literals.{number}
use Rattle.lists.proofs.Mapping.{part_pushed, part_length}
use Rattle.lists.proofs.Reading.{outside_here, inside_more, read_refused, not_empty}
use Rattle.lists.proofs.held.Literals.read.Goals as goal

pub returns-in_err-literal-clause-refused : goal.returns-in_err-literal-clause-refused
returns-in_err-literal-clause-refused c =
    let ns = c.args.numbers.now in
    let i = c.loop-n.n-index in
    let n : ℤ = to_z w16 (of_z w16 (get_or ns i (pos 0))) in
    let is : n ≡ get_or ns i (pos 0) = search rules in
    let p = err_from_is_err_and c.from_residual.result c.from_residual.ensures.1 in
    rw (p.1, p.2)
    (read_refused ns (not_empty ns (sym c.if-is_empty.ensures)) c.if-numbers-gt-MOST_TERMS.false _ (outside_here ns i n c.loop-n-test.true is _ c.in_err-literal.ensures.refused))

pub loop-n-preserved : goal.loop-n-preserved
loop-n-preserved c =
    let ns = c.args.numbers.now in
    let i = c.loop-n.n-index in
    let n : ℤ = to_z w16 (of_z w16 (get_or ns i (pos 0))) in
    let is : n ≡ get_or ns i (pos 0) = search rules in
    let lt = c.loop-n-test.true in
    let few = c.if-numbers-gt-MOST_TERMS.false in
    let before = held c.loop-n.items in
    let long : length before ≡ i = part_length number ns before i lt c.loop-n.invariant.1 in
    let room : length before < 16 = omega arith in
    let e = c.in_ok-literal.ensures in
    let after = pushed_on c.push.result before (held c.push.new.self) c.in_ok-literal.literal c.push.ensures.room c.push.ensures.pushed room in
    let at : get_or ns i (pos 0) ≡ get_or ns i (get_or ns i (pos 0)) = get_or_default ns i (pos 0) (get_or ns i (pos 0)) lt in (
      inside_more ns i n lt is e.refused c.loop-n.invariant.0,
      part_pushed number ns before (held c.push.new.self) i (get_or ns i (pos 0)) c.in_ok-literal.literal lt at (e.literal ∙ is) c.loop-n.invariant.1 after,
    )
