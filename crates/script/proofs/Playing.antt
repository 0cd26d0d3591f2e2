-- A list of requests, carried out so far.
use Rattle.std.proofs.Common.{◌≡◌, ℕ, ◌+◌, ◌<◌, ◌≤◌, List, [], ◌∷◌, ◌++◌, length, get_or, take, None, Option, sym, ap, ◌∙◌, subst}
use Rattle.std.proofs.lemmas.List.{take_more, take_all}
use Rattle.shelf.specs.Meanings.{Meaning}
use Rattle.runs.specs.Calls.{Answered}
use Rattle.runs.specs.Views.{View, opened}
use Rattle.runs.specs.Runs.{Event, event, Run, none as ran-none, then}
use Rattle.runs.specs.Laws.{EverySure}
use Rattle.script.specs.declared.request.Request.{Request}
use Rattle.script.specs.Plays.{call_of, Plays, Script, Replayed}
use Rattle.script.specs.Plays.Plays.{called, passed}
use Rattle.script.specs.Plays.Script.{none as script-none, called as script-called, passed as script-passed}

pub record SoFar (rules : List Meaning) (qs : List Request) (rs : List (Option Answered)) (w : View) : Type 0 where
  pub events : List Event
  pub script : Script rules opened qs rs events w
  pub run : Run rules opened events w

pub begun : (rules : List Meaning) (rs : List (Option Answered)) (w : View) → rs ≡ [] → w ≡ opened → SoFar rules [] rs w
begun rules rs w r e =
    subst (λ (xs : List (Option Answered)). SoFar rules [] xs w) (sym r)
    (subst (SoFar rules [] []) (sym e) (record { events = []; script = script-none; run = ran-none }))

one_more : (rules : List Meaning) (qs : List Request) (rs : List (Option Answered)) (q : Request) (r : Option Answered) (v w : View) → SoFar rules qs rs v → Plays rules v q r w → SoFar rules (qs ++ q ∷ []) (rs ++ r ∷ []) w
one_more rules qs rs q r v w s (called {a = a} x out d) =
    record { events = s.events ++ event (call_of q x) a ∷ []; script = script-called q a x s.script out d; run = then s.run d }
one_more rules qs rs q r v w s (passed wants out e) =
    subst (SoFar rules (qs ++ q ∷ []) (rs ++ None ∷ [])) (sym e) (record { events = s.events; script = script-passed q s.script wants out; run = s.run })

pub played : (rules now_rules : List Meaning) (qs : List Request) (rs rs' : List (Option Answered)) (i : ℕ) (q d : Request) (r : Option Answered) (v w : View) → now_rules ≡ rules
    → i < length qs → q ≡ get_or qs i d → rs' ≡ rs ++ r ∷ [] → SoFar rules (take i qs) rs v → Plays now_rules v q r w → SoFar rules (take (i + 1) qs) rs' w
played rules now_rules qs rs rs' i q d r v w e lt is more s p =
    let front : take (i + 1) qs ≡ take i qs ++ q ∷ [] = take_more qs i d lt ∙ ap (λ (x : Request). take i qs ++ x ∷ []) (sym is) in
    subst (λ (xs : List (Option Answered)). SoFar rules (take (i + 1) qs) xs w) (sym more)
    (subst (λ (xs : List Request). SoFar rules xs (rs ++ r ∷ []) w) (sym front) (one_more rules (take i qs) rs q r v w s (subst (λ (ms : List Meaning). Plays ms v q r w) e p)))

pub finished : (rules : List Meaning) (qs : List Request) (rs : List (Option Answered)) (i : ℕ) (w : View) → length qs ≤ i → SoFar rules (take i qs) rs w → EverySure rules → Replayed rules qs rs w
finished rules qs rs i w le s sure =
    let t : SoFar rules qs rs w = subst (λ (xs : List Request). SoFar rules xs rs w) (take_all i qs le) s in
    record { events = t.events; script = t.script; run = t.run; sure = sure t.events w t.run }
