-- No switch is told twice.
use Rattle.std.specs.Prelude.{◌≡◌, true}
use Rattle.std.proofs.Common.{sym, ap, ◌∙◌}
use Rattle.std.proofs.lemmas.List.{map-id}
use Rattle.lists.specs.Lists.{distinct}
use Rattle.told.specs.declared.told.Told.{Told}
use Rattle.told.specs.Lists.{told_of}

pub told_distinct : (t : Told) → distinct (told_of t) ≡ true
told_distinct t = ap distinct (sym (map-id (told_of t))) ∙ t.trail.once
