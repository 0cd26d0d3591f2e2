use Rattle.std.proofs.Common.{◌≡◌, ◌≤◌, map, length, sum, neg_ℤ, ap, ◌∙◌, arith}
use Rattle.std.proofs.lemmas.List.{length-map}
use Rattle.bounded.specs.Held.{held}
use Rattle.bounded.proofs.Lengths.{held_few}
use Rattle.literals.specs.Literals.{number}
use Rattle.lists.proofs.Distinct.{numbers_opposites}
use Rattle.linear.specs.declared.term.Term.{Term}
use Rattle.linear.specs.Terms.{literals, weights}
use Rattle.linear.proofs.Checking.{sum_few, turned_weights, turned_literals}
use Rattle.linear.proofs.linear.Linear.at_most.Goals as goal

pub invariant_of-result : goal.invariant_of-result
invariant_of-result c =
    let ws = c.args.weights.now in
    let items = c.in_ok-terms.terms.items in
    let same = c.in_ok-terms.ensures.weights in
    let few : length ws ≤ 16 = omega (arith, ap length same, length-map (held items) (λ (t : Term). t.weight), held_few items) in
    let most = sum_few ws 16 few c.type_inv.weights in
    let total : c.total-total.result ≡ sum ws = c.total-total.ensures ∙ ap sum same in
    let lt = c.if-bound-total.false in
    record { least = omega arith; most = omega arith }

pub returns-clause-weights : goal.returns-clause-weights
returns-clause-weights c = ap weights c.opposites.ensures ∙ turned_weights _ ∙ c.in_ok-terms.ensures.weights

pub returns-clause-literals : goal.returns-clause-literals
returns-clause-literals c =
    let ts = held c.in_ok-terms.terms.items in
    ap (λ us. map number (literals us)) c.opposites.ensures ∙ ap (map number) (turned_literals ts) ∙ numbers_opposites (literals ts) ∙ ap (map neg_ℤ) c.in_ok-terms.ensures.literals
