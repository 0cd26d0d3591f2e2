use Rattle.std.proofs.Common.{◌≡◌, false, None, Some, sym, refl, ◌∙◌}
use Rattle.shelf.proofs.Caps.{mention_passed}
use Rattle.pair.specs.Pairs.{pair_rules, split_of}
use Rattle.pair.proofs.Splitting.{is_first, is_second, none_of}
use Rattle.pair.proofs.PairShelf.mentions.Goals as goal

pub returns-in-Some-clause-is : goal.returns-in-Some-clause-is
returns-in-Some-clause-is g c =
    let p = c.self.inside in
    let xs = g.A.Shelf.rules p.first in
    let ys = g.B.Shelf.rules p.second in
    let e : Some c.in-Some.split ≡ split_of xs ys = sym c.in-Some.is ∙ c.self.invariant.splits in
    rw (← c.self.view_is) (is_second xs ys c.in-Some.split e c.mentions.result (λ x m. x ≡ m.mentions c.args.switch) c.args.rule c.if-rule-split.true c.mentions.ensures.is)

pub returns-in-Some-2-clause-is : goal.returns-in-Some-2-clause-is
returns-in-Some-2-clause-is g c =
    let p = c.self.inside in
    let xs = g.A.Shelf.rules p.first in
    let ys = g.B.Shelf.rules p.second in
    let e : Some c.in-Some-2.field-0 ≡ split_of xs ys = sym c.in-Some-2.is ∙ c.self.invariant.splits in
    rw (← c.self.view_is) (is_first xs ys c.in-Some-2.field-0 e c.mentions-in-Some-2.result (λ x m. x ≡ m.mentions c.args.switch) c.args.rule c.mentions-in-Some-2.ensures.is)

-- the check is of the pair as contracts see it, so all is said of that
pub returns-in_ok-check_mention-in-None-clause-is : goal.returns-in_ok-check_mention-in-None-clause-is
returns-in_ok-check_mention-in-None-clause-is g c =
    let p = c.args.self.now in
    let xs = g.A.Shelf.rules p.first in
    let ys = g.B.Shelf.rules p.second in
    let e : None ≡ split_of xs ys = rw (← c.self.view_is) (sym c.in-None.is ∙ c.self.invariant.splits) in
    none_of xs ys e c.args.rule (λ m. false ≡ m.mentions c.args.switch) refl (mention_passed (pair_rules xs ys) c.args.rule c.args.switch c.in_ok-check_mention-in-None.ensures)
