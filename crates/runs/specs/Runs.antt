-- Lists of calls.
--   Event       a call with its answer
--   Run         what a list of calls does
--   Traced      some list of calls from a new session on leads to a trail
--   chosen_by   the chosen literals, by the calls and their answers alone
use Rattle.std.specs.Prelude.{◌≡◌, List, [], ◌∷◌, ◌++◌, take, ℤ, Ok, Err}
use Rattle.shelf.specs.Meanings.{Meaning}
use Rattle.runs.specs.declared.calls.Call.{Call}
use Rattle.runs.specs.declared.calls.Call.TheVariants.{Settle, Choose, Back, BackFromClash, Close}
use Rattle.runs.specs.declared.calls.Reply.TheVariants.{Done, Grown, Clash}
use Rattle.runs.specs.declared.step.Step.{Step}
use Rattle.runs.specs.Views.{View, opened}
use Rattle.runs.specs.Calls.{Answered, Does}

pub record Event : Type 0 where
  pub call : Call
  pub answer : Answered

abbrev pub event : Call → Answered → Event
event c a = record { call = c; answer = a }

-- from the view v a list of calls, each with its answer, leads to the view w
pub data Run (rules : List Meaning) (v : View) : List Event → View → Type 0 where
  none : Run rules v [] v
  then : {es : List Event} {w x : View} {c : Call} {a : Answered} → Run rules v es w → Does rules w c a x → Run rules v (es ++ event c a ∷ []) x

pub record Traced (rules : List Meaning) (t : List Step) : Type 0 where
  pub view : View
  pub events : List Event
  pub run : Run rules opened events view
  pub trail : view.trail ≡ t

-- an accepted choose adds its own at the end, an accepted back to k, plain or from a clash, keeps the first k
abbrev pub accepted : List ℤ → Call → List ℤ
accepted c Settle = c
accepted c (Choose n) = c ++ n ∷ []
accepted c (Back k) = take k c
accepted c (BackFromClash x k) = take k c
accepted c (Close x) = c

abbrev pub chosen_after : List ℤ → Event → List ℤ
chosen_after c e = go e.answer
  where
    go : Answered → List ℤ
    go (Ok Done) = accepted c e.call
    go (Ok (Grown n)) = c
    go (Ok (Clash x letter)) = c
    go (Err r) = c

abbrev pub chosen_from : List ℤ → List Event → List ℤ
chosen_from c [] = c
chosen_from c (e ∷ es) = chosen_from (chosen_after c e) es

-- none at opening
abbrev pub chosen_by : List Event → List ℤ
chosen_by es = chosen_from [] es
