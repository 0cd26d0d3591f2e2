-- What a session keeps beside its shelf.
--   view_of     what is seen of it
--   Front       how many steps of a trail are left at a level
--   TrailTold   the shelf was told what is on the trail
--   Reached     some list of calls led to a view
--   Sound       both, of a session
--   Cut         what is left of a trail at a level
--   Ran         what came of settling
use Rattle.std.specs.Prelude.{◌≡◌, ℕ, ◌≤◌, List, length, take, Some, None, Option}
use Rattle.told.specs.Trails.{items_of}
use Rattle.literals.specs.declared.literal.Literal.{Literal}
use Rattle.rules.specs.declared.Verdict.{Verdict}
use Rattle.rules.specs.declared.Verdict.TheVariants.{Quiet, Broken}
use Rattle.rules.specs.Scans.{Numbered}
use Rattle.shelf.specs.Meanings.{Meaning}
use Rattle.runs.specs.declared.step.Step.{Step}
use Rattle.runs.specs.Views.{View, literals_on, opened, up_to}
use Rattle.runs.specs.Calls.{Settles, state_by}
use Rattle.runs.specs.Runs.{Event, Run}
use Rattle.session.specs.declared.log.Log.{Log}

abbrev pub view_of : Log → View
view_of g = record { state = g.state; level = g.level; trail = items_of g.trail }

-- the first n have all that is at level k or below, and the last of them is
pub record Front (k : ℕ) (t : List Step) (n : ℕ) : Type 0 where
  pub few : n ≤ length t
  pub all : up_to k (take n t) ≡ up_to k t
  pub last : (x : Step) → Numbered t n x → x.level ≤ k

-- the literals of the trail are those that the shelf was told, in order
abbrev pub TrailTold : List Literal → Log → Type 0
TrailTold ls g = ls ≡ literals_on (items_of g.trail)

-- some list of calls led from a new session to this view
pub record Reached (rules : List Meaning) (v : View) : Type 0 where
  pub events : List Event
  pub run : Run rules opened events v

-- what holds of every session: of its log, over a shelf with these rules that was told these literals
pub record Sound (rules : List Meaning) (ls : List Literal) (g : Log) : Type 0 where
  pub told : TrailTold ls g
  pub reached : Reached rules (view_of g)

-- u is that front of t
pub record Cut (k : ℕ) (t u : List Step) : Type 0 where
  pub left : ℕ
  pub front : Front k t left
  pub is : u ≡ take left t

-- the verdict at the end: no rule is broken, or this one
abbrev pub ending : Option ℕ → Verdict
ending None = Quiet
ending (Some r) = Broken r

-- settling led from g to h
pub record Ran (rules : List Meaning) (g : Log) (r : Option ℕ) (h : Log) : Type 0 where
  pub settles : Settles rules g.level (items_of g.trail) (items_of h.trail) (ending r)
  pub state : h.state ≡ state_by (ending r)
  pub level : h.level ≡ g.level
