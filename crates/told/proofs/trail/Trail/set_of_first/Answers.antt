use Rattle.std.proofs.Common.{◌≡◌, [], ◌∷◌, ◌++◌, map, take, drop, ◌-◌, length, take_all, length-drop, arith, sym, ap, ◌∙◌, rules}
use Rattle.std.specs.Slice.Iter.{iter_rest}
use Rattle.std.proofs.lemmas.List.{take-append-drop, append-nil, append_assoc, nil_from_length}
use Rattle.literals.specs.Settings.{set_of}
use Rattle.lists.specs.Lists.{distinct}
use Rattle.told.specs.Trails.{items_of}
use Rattle.told.proofs.Trails.{taken_back}
use Rattle.told.proofs.trail.Trail.set_of_first.Goals as goal

pub loop-x-init : goal.loop-x-init
loop-x-init g c =
    let lit = g.T.Says.literal in
    let items = items_of c.args.self.now in
    let n = c.args.n in
    let xs = c.as_slice.result.now in
    let rest : iter_rest c.into_iter-x-iterator.result.iter ≡ take (length xs - n) (drop n xs) = search rules in
    let all : take (length xs - n) (drop n xs) ≡ drop n xs = take_all _ _ (omega (arith, length-drop n xs)) in
    let whole : take n items ++ iter_rest c.into_iter-x-iterator.result.iter ≡ items =
    ap (◌++◌ (take n items)) (rest ∙ all ∙ ap (drop n) c.as_slice.ensures) ∙ take-append-drop n items in
    (ap (λ ys. distinct (map lit ys)) whole ∙ c.args.self.now.once, c.args.self.now.agrees ∙ ap (λ ys. set_of (map lit ys)) (sym whole))

pub loop-x-preserved : goal.loop-x-preserved
loop-x-preserved g c =
    let kept = take c.args.n (items_of c.args.self.now) in
    let rest = iter_rest c.loop-x.x-iterator.iter in
    let rest' = iter_rest c.next.new.self.iter in
    let e : kept ++ rest ≡ (kept ++ rest') ++ c.in-Some.x.now ∷ [] = ap (◌++◌ kept) c.in-Some.ensures.steps ∙ sym (append_assoc kept rest' _) in
    taken_back g.T.Says.literal (kept ++ rest) (kept ++ rest') c.in-Some.x.now c.literal.result c.loop-x.set c.without-set.result e c.literal.ensures
    c.loop-x.invariant.0 c.loop-x.invariant.1 c.without-set.ensures.words

pub returns : goal.returns
returns g c =
    let kept = take c.args.n (items_of c.args.self.now) in
    let none : iter_rest c.loop-x.x-iterator.iter ≡ [] = nil_from_length _ c.in-None.ensures.steps.0 in
    let all : kept ++ iter_rest c.loop-x.x-iterator.iter ≡ kept = ap (◌++◌ kept) none ∙ append-nil kept in
    c.loop-x.invariant.1 ∙ ap (λ ys. set_of (map g.T.Says.literal ys)) all
