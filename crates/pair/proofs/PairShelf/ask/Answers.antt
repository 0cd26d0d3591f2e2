use Rattle.std.proofs.Common.{◌≡◌, None, Some, sym, ◌∙◌, arith}
use Rattle.literals.specs.Settings.{set_of}
use Rattle.rules.specs.declared.Verdict.TheVariants.{Quiet, Broken, Forced}
use Rattle.rules.proofs.Numbers.{numbered_high}
use Rattle.pair.specs.Pairs.{split_of}
use Rattle.pair.proofs.Splitting.{none_answer, first_answers, second_answers, sum_few}
use Rattle.pair.proofs.PairShelf.ask.Goals as goal

pub returns-in_default : goal.returns-in_default
returns-in_default g c =
    let p = c.self.inside in
    let xs = g.A.Shelf.rules p.first in
    let ys = g.B.Shelf.rules p.second in
    let e : None ≡ split_of xs ys = sym c.in_default.is ∙ c.self.invariant.splits in
    rw (← c.self.view_is) (none_answer xs ys e (set_of (g.A.Shelf.told p.first)))

pub overflow_add-result : goal.overflow_add-result
overflow_add-result g c =
    let p = c.self.inside in
    let xs = g.A.Shelf.rules p.first in
    let ys = g.B.Shelf.rules p.second in
    let e : Some c.in-Some.split ≡ split_of xs ys = sym c.in-Some.is ∙ c.self.invariant.splits in
    let few = sum_few xs ys c.in-Some.split e c.in-Broken.r (numbered_high c.in-Broken.ensures.numbered) in
    omega (arith, few)

pub overflow_add-result-in-Forced : goal.overflow_add-result-in-Forced
overflow_add-result-in-Forced g c =
    let p = c.self.inside in
    let xs = g.A.Shelf.rules p.first in
    let ys = g.B.Shelf.rules p.second in
    let e : Some c.in-Some.split ≡ split_of xs ys = sym c.in-Some.is ∙ c.self.invariant.splits in
    let few = sum_few xs ys c.in-Some.split e c.in-Forced.r (numbered_high c.in-Forced.ensures.numbered) in
    omega (arith, few)

pub returns-in-Quiet-ask : goal.returns-in-Quiet-ask
returns-in-Quiet-ask g c =
    let p = c.self.inside in
    let xs = g.A.Shelf.rules p.first in
    let ys = g.B.Shelf.rules p.second in
    let e : Some c.in-Some.split ≡ split_of xs ys = sym c.in-Some.is ∙ c.self.invariant.splits in
    rw (← c.self.view_is) (second_answers xs ys c.in-Some.split e (g.A.Shelf.told p.first) (g.B.Shelf.told p.second) Quiet c.self.invariant.same c.in-Quiet.ensures c.in-Quiet-ask.ensures)

pub returns-in-Broken : goal.returns-in-Broken
returns-in-Broken g c =
    let p = c.self.inside in
    let xs = g.A.Shelf.rules p.first in
    let ys = g.B.Shelf.rules p.second in
    let e : Some c.in-Some.split ≡ split_of xs ys = sym c.in-Some.is ∙ c.self.invariant.splits in
    rw (← c.self.view_is) (second_answers xs ys c.in-Some.split e (g.A.Shelf.told p.first) (g.B.Shelf.told p.second) (Broken c.in-Broken.r) c.self.invariant.same c.in-Quiet.ensures c.in-Broken.ensures)

pub returns-in-Forced : goal.returns-in-Forced
returns-in-Forced g c =
    let p = c.self.inside in
    let xs = g.A.Shelf.rules p.first in
    let ys = g.B.Shelf.rules p.second in
    let e : Some c.in-Some.split ≡ split_of xs ys = sym c.in-Some.is ∙ c.self.invariant.splits in
    rw (← c.self.view_is) (second_answers xs ys c.in-Some.split e (g.A.Shelf.told p.first) (g.B.Shelf.told p.second) (Forced c.in-Forced.r c.in-Forced.l) c.self.invariant.same c.in-Quiet.ensures c.in-Forced.ensures)

pub returns-in_default-ask : goal.returns-in_default-ask
returns-in_default-ask g c =
    let p = c.self.inside in
    let xs = g.A.Shelf.rules p.first in
    let ys = g.B.Shelf.rules p.second in
    let e : Some c.in-Some.split ≡ split_of xs ys = sym c.in-Some.is ∙ c.self.invariant.splits in
    rw (← c.self.view_is) (first_answers xs ys c.in-Some.split e (set_of (g.A.Shelf.told p.first)) c.ask.result c.in_default-ask.not-Quiet c.ask.ensures)
