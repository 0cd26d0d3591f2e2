use Rattle.std.proofs.Common.{◌≡◌, None, Some, sym, ◌∙◌}
use Rattle.shelf.proofs.Caps.{rule_passed}
use Rattle.pair.specs.Pairs.{pair_rules, split_of}
use Rattle.pair.proofs.Splitting.{is_first, is_second, none_of}
use Rattle.pair.proofs.PairShelf.letter_of.Goals as goal

pub returns-in-Some-clause-is : goal.returns-in-Some-clause-is
returns-in-Some-clause-is g c =
    let p = c.self.inside in
    let xs = g.A.Shelf.rules p.first in
    let ys = g.B.Shelf.rules p.second in
    let e : Some c.in-Some.split ≡ split_of xs ys = sym c.in-Some.is ∙ c.self.invariant.splits in
    rw (← c.self.view_is) (is_second xs ys c.in-Some.split e c.letter_of.result (λ x m. x ≡ m.letter) c.args.rule c.if-rule-split.true c.letter_of.ensures.is)

pub returns-in-Some-2-clause-is : goal.returns-in-Some-2-clause-is
returns-in-Some-2-clause-is g c =
    let p = c.self.inside in
    let xs = g.A.Shelf.rules p.first in
    let ys = g.B.Shelf.rules p.second in
    let e : Some c.in-Some-2.field-0 ≡ split_of xs ys = sym c.in-Some-2.is ∙ c.self.invariant.splits in
    rw (← c.self.view_is) (is_first xs ys c.in-Some-2.field-0 e c.letter_of-in-Some-2.result (λ x m. x ≡ m.letter) c.args.rule c.letter_of-in-Some-2.ensures.is)

-- the check is of the pair as contracts see it, so all is said of that
pub returns-in_ok-check_rule-in-None-clause-is : goal.returns-in_ok-check_rule-in-None-clause-is
returns-in_ok-check_rule-in-None-clause-is g c =
    let p = c.args.self.now in
    let xs = g.A.Shelf.rules p.first in
    let ys = g.B.Shelf.rules p.second in
    let e : None ≡ split_of xs ys = rw (← c.self.view_is) (sym c.in-None.is ∙ c.self.invariant.splits) in
    none_of xs ys e c.args.rule (λ m. c.letter.result ≡ m.letter) c.letter.ensures (rule_passed (pair_rules xs ys) c.args.rule c.in_ok-check_rule-in-None.ensures)
