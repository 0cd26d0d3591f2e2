use Rattle.std.proofs.Common.{◌≡◌, map, length, ap, ◌∙◌, arith, take_all}
use Rattle.std.proofs.lemmas.List.{length-map}
use Rattle.bounded.specs.Held.{held}
use Rattle.lists.specs.Lists.{distinct}
use Rattle.lists.proofs.Distinct.{distinct_opposites}
use Rattle.linear.specs.Terms.{literals, weights, bad_weights, turned}
use Rattle.linear.proofs.Checking.{turned_weights, turned_literals}
use Rattle.linear.proofs.terms.Terms.opposites.Goals as goal

pub invariant_of-result : goal.invariant_of-result
invariant_of-result c =
    let old = c.args.self.now in
    let ts = held old.items in
    let all : held c.loop-t.items ≡ map turned ts = c.loop-t.invariant ∙ ap (map turned) (take_all _ _ c.loop-t-test.false ∙ c.as_slice-t-items.ensures.value) in
    record {
      some = omega (arith, ap length all, length-map ts turned, old.some);
      once = ap (λ us. distinct (literals us)) all ∙ ap distinct (turned_literals ts) ∙ distinct_opposites (literals ts) ∙ old.once;
      falling = ap (λ us. bad_weights (weights us)) all ∙ ap bad_weights (turned_weights ts) ∙ old.falling;
    }
