-- What is told of a switch, and which places a trail has.
--   position   on where its literal stands, off where the opposite does, else free
--   no_place   there is no such place
use Rattle.std.specs.Prelude.{ℕ, Bool, cond, ◌||◌, List, length, pos, neg_ℤ, nat_lt}
use Rattle.literals.specs.declared.setting.Setting.{Setting}
use Rattle.literals.specs.Settings.{stands_number}
use Rattle.runs.specs.declared.step.Step.{Step}
use Rattle.session.specs.declared.position.Position.{Position}
use Rattle.session.specs.declared.position.Position.TheVariants.{On, Off, Free}

abbrev pub position : Setting → ℕ → Position
position s n = cond (stands_number s (pos n)) On (cond (stands_number s (neg_ℤ (pos n))) Off Free)

-- places are numbered from 1
abbrev pub no_place : List Step → ℕ → Bool
no_place t i = nat_lt i 1 || nat_lt (length t) i
