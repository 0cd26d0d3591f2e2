-- What a trail holds, in order.
use Rattle.std.specs.Prelude.{List}
use Rattle.bounded.specs.Held.{held}
use Rattle.told.specs.declared.trail.Trail.{Trail}

abbrev pub items_of : {T : Type 0} {s : _} → Trail T s → List T
items_of t = held t.items
