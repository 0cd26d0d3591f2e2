use Rattle.std.proofs.Common.{◌≡◌, ◌∙◌, false, List, pos, subst, arith, rules}
use lib.Signed.{lt_z}
use Rattle.std.proofs.lemmas.Fn.{fold_over, slice_gives, fronts}
use Rattle.std.proofs.lemmas.Int.{ints}
use Rattle.std.proofs.lemmas.List.Elements.{All-nil}
use Rattle.linear.specs.declared.term.Term.{Term}
use Rattle.linear.specs.Lowests.{passes}
use Rattle.linear.specs.Linears.{terms_of}
use Rattle.linear.proofs.Lowests.{Lowest, lowest_improved, first_above}
use Rattle.linear.proofs.linear.Linear.first_above.Goals as goal

pub returns : goal.returns
returns c =
    let z = c.args.number in
    let p = passes z c.args.set.now in
    let ts = c.iter.result.rest.now in
    let low : lt_z z (pos 0) ≡ false = let h = c.if-number-lt0.false in grind (arith, ints) in
    let best = fold_over fronts (λ x. x.now) _ (Lowest p) _ (λ ys a x b f' h k. (lowest_improved p ys x.now a b (search rules) h, search rules))
    c.iter.result ts _ c.fold.result (slice_gives c.iter.result) (All-nil (λ t. p t ≡ false)) c.fold.ensures.ran in
    first_above (terms_of c.args.self.now) z c.args.set.now c.args.self.now.terms.once low c.fold.result
    (subst (λ (xs : List Term). Lowest p xs c.fold.result) (c.iter.ensures.rest ∙ c.terms.ensures.value) best)
