use Rattle.std.proofs.Common.{◌≡◌, false, take}
use Rattle.lists.specs.Lists.{Collects, some_outside}
use Rattle.lists.proofs.slices.collect.Given as goal

abbrev pub invariant-loop-n : goal.invariant-loop-n
invariant-loop-n l = (some_outside (take l.n-index l.numbers) ≡ false) × Collects (take l.n-index l.numbers) l.set
