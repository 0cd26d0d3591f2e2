-- What holds after every list of calls, whatever the rules are.
--   Holds          a set contains the chosen literals
--   Meets          a set breaks no rule
--   Still          no rule forces a literal from a set
--   Stable         all three
--   Least          the stable set that every other contains
--   Full           a full setting: one literal of each switch
--   LowestBroken   the lowest rule that a set breaks
--   Hopeless       a clash that no full setting could have escaped
--   Sure           what holds after one list of calls
--   Same           the same literals, in any order
--   Alike          what two sessions tell alike
--   Agree          what holds of two lists of calls with the same chosen literals
--   One            a call has exactly one answer and one outcome
--   Laws           all of it, for every list of calls from a new session on
use Rattle.std.specs.Prelude.{◌≡◌, ℕ, ◌<◌, true, false, cond, not, List, [], ◌∷◌, length, ℤ, is_none, ◌≢◌}
use Rattle.literals.specs.declared.literal.Literal.{Literal}
use Rattle.literals.specs.declared.setting.Setting.{Setting}
use Rattle.literals.specs.Literals.{number, opposite}
use Rattle.literals.specs.Settings.{stands, free_count, ◌⊆◌}
use Rattle.lists.specs.Lists.{◌∈◌}
use Rattle.rules.specs.Scans.{Numbered}
use Rattle.shelf.specs.Meanings.{Meaning, Every, Lawful, Match}
use Rattle.runs.specs.declared.step.Step.{Step}
use Rattle.runs.specs.declared.calls.State.TheVariants.{Settled, Clashed}
use Rattle.runs.specs.declared.calls.Call.{Call}
use Rattle.runs.specs.Views.{View, opened, standing}
use Rattle.runs.specs.Calls.{Answered, Does}
use Rattle.runs.specs.Runs.{Event, Run, chosen_by}
use Rattle.runs.specs.Reasons.{Meets, Still, Because}

abbrev pub Holds : List ℤ → Setting → Type 0
Holds chosen s = (l : Literal) → number l ∈ chosen → stands s l ≡ true

pub record Stable (rules : List Meaning) (chosen : List ℤ) (s : Setting) : Type 0 where
  pub holds : Holds chosen s
  pub meets : Meets rules s
  pub still : Still rules s

pub record Least (rules : List Meaning) (chosen : List ℤ) (s : Setting) : Type 0 where
  pub stable : Stable rules chosen s
  pub within : (t : Setting) → Stable rules chosen t → s ⊆ t

abbrev pub Full : Setting → Type 0
Full s = (l : Literal) → stands s (opposite l) ≡ not (stands s l)

pub record LowestBroken (rules : List Meaning) (s : Setting) (r : ℕ) : Type 0 where
  pub rule : Meaning
  pub numbered : Numbered rules r rule
  pub breaks : rule.breaks s ≡ true
  pub lowest : (q : ℕ) (m : Meaning) → Numbered rules q m → q < r → m.breaks s ≡ false

-- rule r is the lowest that is broken, and no full setting that meets every rule contains the chosen literals
pub record Hopeless (rules : List Meaning) (chosen : List ℤ) (s : Setting) (r : ℕ) : Type 0 where
  pub broken : LowestBroken rules s r
  pub hopeless : (t : Setting) → Full t → Meets rules t → Holds chosen t → ⊥

-- ---- one list of calls

-- the chosen literals as the trail has them: those that no rule locked
abbrev pub chosen_in : List Step → List ℤ
chosen_in [] = []
chosen_in (x ∷ xs) = cond (is_none x.rule) (number x.literal ∷ chosen_in xs) (chosen_in xs)

-- the trail has the chosen literals, in their order; where it is settled, what stands is the least stable set over them; where it is
-- clashed, there is no hope
pub record Sure (rules : List Meaning) (events : List Event) (w : View) : Type 0 where
  pub chosen : chosen_in w.trail ≡ chosen_by events
  pub settled : w.state ≡ Settled → Least rules (chosen_by events) (standing w.trail)
  pub clashed : (r : ℕ) → w.state ≡ Clashed r → Hopeless rules (chosen_by events) (standing w.trail) r

-- ---- two lists of calls

pub record Same (c d : List ℤ) : Type 0 where
  pub there : (n : ℤ) → n ∈ c → n ∈ d
  pub back : (n : ℤ) → n ∈ d → n ∈ c

pub record Alike (v w : View) : Type 0 where
  pub level : v.level ≡ w.level
  pub free : free_count (standing v.trail) ≡ free_count (standing w.trail)
  pub trail : length v.trail ≡ length w.trail
  pub switches : (l : Literal) → stands (standing v.trail) l ≡ stands (standing w.trail) l

-- never one settled and one clashed; both settled, they tell alike
pub record Agree (v w : View) : Type 0 where
  pub never : v.state ≡ Settled → (r : ℕ) → w.state ≢ Clashed r
  pub nor : w.state ≡ Settled → (r : ℕ) → v.state ≢ Clashed r
  pub alike : v.state ≡ Settled → w.state ≡ Settled → Alike v w

-- ---- every list of calls

pub record One (rules : List Meaning) (v : View) (c : Call) : Type 0 where
  pub answer : Answered
  pub view : View
  pub does : Does rules v c answer view
  pub only : (a : Answered) (w : View) → Does rules v c a w → (a ≡ answer) × (w ≡ view)

abbrev pub EverySure : List Meaning → Type 0
EverySure rules = (events : List Event) (w : View) → Run rules opened events w → Sure rules events w

abbrev pub EveryTwoAgree : List Meaning → Type 0
EveryTwoAgree rules =
    (others : List Meaning) → Every others Lawful → Match rules others
    → (es fs : List Event) (v w : View) → Run rules opened es v → Run others opened fs w → Same (chosen_by es) (chosen_by fs) → Agree v w

abbrev pub EveryBecause : List Meaning → Type 0
EveryBecause rules = (events : List Event) (w : View) → Run rules opened events w → Because rules w.trail

pub record Laws (rules : List Meaning) : Type 0 where
  pub one : (v : View) (c : Call) → One rules v c
  pub sure : EverySure rules
  pub agree : EveryTwoAgree rules
  pub because : EveryBecause rules
