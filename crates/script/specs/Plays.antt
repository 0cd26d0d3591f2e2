-- Requests, and what they do.
--   call_of    the call that a request makes, with the receipt of a clash
--   Wants      the request wants a receipt
--   Out        a receipt of this clash is out
--   Plays      what a request does
--   Script     the calls of a list of requests, with their answers
--   Replayed   what came of a whole list
use Rattle.std.specs.Prelude.{◌≡◌, ℕ, List, [], ◌∷◌, ◌++◌, Some, None, Option, ◌≢◌}
use Rattle.shelf.specs.Meanings.{Meaning}
use Rattle.runs.specs.declared.calls.State.TheVariants.{Clashed}
use Rattle.runs.specs.declared.calls.Call.{Call}
use Rattle.runs.specs.declared.calls.Call.TheVariants as call
use Rattle.runs.specs.declared.calls.Clash.{Clash}
use Rattle.runs.specs.Views.{View, opened}
use Rattle.runs.specs.Calls.{Answered, Does}
use Rattle.runs.specs.Runs.{Event, event, Run}
use Rattle.runs.specs.Laws.{Sure}
use Rattle.script.specs.declared.request.Request.{Request}
use Rattle.script.specs.declared.request.Request.TheVariants.{Settle, Choose, Back, BackFromClash, Close}

abbrev pub call_of : Request → Clash → Call
call_of Settle x = call.Settle
call_of (Choose n) x = call.Choose n
call_of (Back k) x = call.Back k
call_of (BackFromClash k) x = call.BackFromClash x k
call_of Close x = call.Close x

abbrev pub Wants : Request → Type 0
Wants Settle = ⊥
Wants (Choose n) = ⊥
Wants (Back k) = ⊥
Wants (BackFromClash k) = Unit {0}
Wants Close = Unit {0}

-- this clash stands
pub record Out (v : View) (x : Clash) : Type 0 where
  pub clash : v.state ≡ Clashed x.rule
  pub at : v.level ≡ x.level

-- no clash stands, so no receipt is out
abbrev pub NoneOut : View → Type 0
NoneOut v = (r : ℕ) → v.state ≢ Clashed r

-- the request makes its call, with the receipt that is out where it wants one; or it is passed over, where it wants one and none is out
pub data Plays (rules : List Meaning) (v : View) (q : Request) : Option Answered → View → Type 0 where
  called : {a : Answered} {w : View} (x : Clash) → (Wants q → Out v x) → Does rules v (call_of q x) a w → Plays rules v q (Some a) w
  passed : {w : View} → Wants q → NoneOut v → w ≡ v → Plays rules v q None w

-- the requests qs, each with its answer or passed over, are this list of calls from v on, which leads to w
pub data Script (rules : List Meaning) (v : View) : List Request → List (Option Answered) → List Event → View → Type 0 where
  none : Script rules v [] [] [] v
  called : {qs : List Request} {rs : List (Option Answered)} {es : List Event} {w u : View} (q : Request) (a : Answered) (x : Clash)
      → Script rules v qs rs es w → (Wants q → Out w x) → Does rules w (call_of q x) a u
      → Script rules v (qs ++ q ∷ []) (rs ++ Some a ∷ []) (es ++ event (call_of q x) a ∷ []) u
  passed : {qs : List Request} {rs : List (Option Answered)} {es : List Event} {w : View} (q : Request)
      → Script rules v qs rs es w → Wants q → NoneOut w → Script rules v (qs ++ q ∷ []) (rs ++ None ∷ []) es w

-- these requests led from a new session to this view, by a list of calls of which all is sure that is sure of every list
pub record Replayed (rules : List Meaning) (qs : List Request) (rs : List (Option Answered)) (w : View) : Type 0 where
  pub events : List Event
  pub script : Script rules opened qs rs events w
  pub run : Run rules opened events w
  pub sure : Sure rules events w
