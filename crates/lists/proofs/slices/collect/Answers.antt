use Rattle.std.proofs.Common.{◌≡◌, Bool, cond, List, [], get_or, ℤ, pos, Some, None, sym, refl, ap, ◌∙◌, subst, take_all, w16, to_z, of_z, rules}
use Rattle.std.proofs.lemmas.Result.{err_from_is_err_and}
use Rattle.literals.specs.declared.refusal.Refusal.TheVariants.{OutOfRange}
use Rattle.lists.specs.Lists.{Collects}
use Rattle.lists.proofs.Reading.{outside_here, inside_more, inside_all, collects_none, collects_more}
use Rattle.lists.proofs.slices.collect.Goals as goal

pub returns-in_err-literal : goal.returns-in_err-literal
returns-in_err-literal c =
    let ns = c.args.numbers.now in
    let i = c.loop-n.n-index in
    let n : ℤ = to_z w16 (of_z w16 (get_or ns i (pos 0))) in
    let is : n ≡ get_or ns i (pos 0) = search rules in
    let here = outside_here ns i n c.loop-n-test.true is _ c.in_err-literal.ensures.refused in
    let p = err_from_is_err_and c.from_residual.result c.from_residual.ensures.1 in
    rw (p.1, p.2) (record { refused = ap Some here.1 ∙ ap (λ (b : Bool). cond b (Some OutOfRange) None) (sym here.0); set = tt })

pub loop-n-init : goal.loop-n-init
loop-n-init c = (refl, subst (Collects []) (sym c.new-set.ensures) collects_none)

pub loop-n-preserved : goal.loop-n-preserved
loop-n-preserved c =
    let ns = c.args.numbers.now in
    let i = c.loop-n.n-index in
    let n : ℤ = to_z w16 (of_z w16 (get_or ns i (pos 0))) in
    let is : n ≡ get_or ns i (pos 0) = search rules in
    let e = c.in_ok-literal.ensures in (
      inside_more ns i n c.loop-n-test.true is e.refused c.loop-n.invariant.0,
      subst (Collects _) (sym c.with-set.ensures.words) (collects_more ns i n c.in_ok-literal.literal c.loop-n.set c.loop-n-test.true is e.literal c.loop-n.invariant.1),
    )

pub returns : goal.returns
returns c =
    let ns = c.args.numbers.now in
    let i = c.loop-n.n-index in
    record {
      refused = ap (λ (b : Bool). cond b (Some OutOfRange) None) (sym (inside_all ns i c.loop-n-test.false c.loop-n.invariant.0));
      set = subst (λ (xs : List ℤ). Collects xs c.loop-n.set) (take_all i ns c.loop-n-test.false) c.loop-n.invariant.1;
    }
