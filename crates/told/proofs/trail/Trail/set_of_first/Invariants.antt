use Rattle.std.proofs.Common.{◌≡◌, true, ◌++◌, map, take}
use Rattle.std.specs.Slice.Iter.{iter_rest}
use Rattle.literals.specs.Settings.{set_of}
use Rattle.lists.specs.Lists.{distinct}
use Rattle.told.specs.Trails.{items_of}
use Rattle.told.proofs.trail.Trail.set_of_first.Given as goal

abbrev pub invariant-loop-x : goal.invariant-loop-x
invariant-loop-x g l =
    let left = map g.T.Says.literal (take l.n (items_of l.self) ++ iter_rest l.x-iterator.iter) in (distinct left ≡ true) × (l.set ≡ set_of left)
