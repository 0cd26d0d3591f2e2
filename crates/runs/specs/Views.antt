-- A session as it is seen.
--   View          all that can be seen of a session
--   opened        a session that was just opened
--   literals_on   the literals of a trail, in order
--   standing      the set of them
--   step          a place of a trail
--   up_to         the places of a trail at a level or below
use Rattle.std.specs.Prelude.{ℕ, cond, List, [], ◌∷◌, map, Option, nat_le}
use Rattle.literals.specs.declared.literal.Literal.{Literal}
use Rattle.literals.specs.declared.setting.Setting.{Setting}
use Rattle.literals.specs.Settings.{set_of}
use Rattle.runs.specs.declared.step.Step.{Step}
use Rattle.runs.specs.declared.calls.State.{State}
use Rattle.runs.specs.declared.calls.State.TheVariants.{Unsettled}

pub record View : Type 0 where
  pub state : State
  pub level : ℕ
  pub trail : List Step

abbrev pub opened : View
opened = record { state = Unsettled; level = 0; trail = [] }

abbrev pub literals_on : List Step → List Literal
literals_on t = map (λ (x : Step). x.literal) t

abbrev pub standing : List Step → Setting
standing t = set_of (literals_on t)

abbrev pub step : Literal → ℕ → Option ℕ → Step
step l level rule = record { literal = l; level = level; rule = rule }

abbrev pub up_to : ℕ → List Step → List Step
up_to k [] = []
up_to k (x ∷ xs) = cond (nat_le x.level k) (x ∷ up_to k xs) (up_to k xs)
