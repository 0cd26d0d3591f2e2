use Rattle.std.proofs.Common.{◌≡◌, true, take}
use Rattle.literals.specs.Settings.{set_of}
use Rattle.lists.specs.Lists.{distinct}
use Rattle.lists.proofs.slices.switch_twice.Given as goal

abbrev pub invariant-loop-l : goal.invariant-loop-l
invariant-loop-l l = (distinct (take l.l-index l.literals) ≡ true) × (l.seen ≡ set_of (take l.l-index l.literals))
