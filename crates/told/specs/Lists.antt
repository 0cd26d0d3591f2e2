-- The literals that were told, in order.
use Rattle.std.specs.Prelude.{List}
use Rattle.literals.specs.declared.literal.Literal.{Literal}
use Rattle.told.specs.declared.told.Told.{Told}
use Rattle.told.specs.Trails.{items_of}

abbrev pub told_of : Told → List Literal
told_of t = items_of t.trail
