-- What a call does to a session and answers.
--   clash          the clash of a rule at a level
--   input_checks   what is checked of what was handed in, in order
--   state_checks   what is checked of how things stand, in order
--   checks         both, what was handed in first
--   Answered       a reply, or why a call is refused
--   Settles        what settling puts on a trail, and how it ends
--   SettledBy      what a settle does
--   Chose          what a choose does
--   WentBack       what going back does
--   Closed         what closing does
--   Did            what each call does
--   Does           what each call does, refusals included
use Rattle.std.specs.Prelude.{◌≡◌, ℕ, ◌+◌, Bool, true, false, not, ◌&&◌, List, [], ◌∷◌, ◌++◌, length, ℤ, neg_ℤ, Some, None, Ok, Err, Result, ◌==◌, nat_le, nat_lt}
use Rattle.literals.specs.declared.literal.Literal.{Literal}
use Rattle.literals.specs.declared.refusal.Refusal.{Refusal}
use Rattle.literals.specs.declared.refusal.Refusal.TheVariants as refusal
use Rattle.literals.specs.Literals.{number, no_literal}
use Rattle.literals.specs.Refusals.{Check, check, first_failed}
use Rattle.literals.specs.Settings.{stands_number}
use Rattle.rules.specs.declared.Verdict.{Verdict}
use Rattle.rules.specs.declared.Verdict.TheVariants.{Quiet, Broken, Forced}
use Rattle.shelf.specs.Meanings.{Meaning, Answers, OfRule}
use Rattle.runs.specs.declared.step.Step.{Step}
use Rattle.runs.specs.declared.calls.State.{State}
use Rattle.runs.specs.declared.calls.State.TheVariants.{Unsettled, Settled, Clashed, Shut}
use Rattle.runs.specs.declared.calls.Clash.{Clash}
use Rattle.runs.specs.declared.calls.Call.{Call}
use Rattle.runs.specs.declared.calls.Call.TheVariants.{Settle, Choose, Back, BackFromClash, Close}
use Rattle.runs.specs.declared.calls.Reply.{Reply}
use Rattle.runs.specs.declared.calls.Reply.TheVariants as reply
use Rattle.runs.specs.Views.{View, standing, step, up_to}

-- ---- what is refused

abbrev pub is_unsettled : State → Bool
is_unsettled Unsettled = true
is_unsettled Settled = false
is_unsettled (Clashed r) = false
is_unsettled Shut = false

abbrev pub is_shut : State → Bool
is_shut Unsettled = false
is_shut Settled = false
is_shut (Clashed r) = false
is_shut Shut = true

-- a clash stands
abbrev pub is_clashed : State → Bool
is_clashed Unsettled = false
is_clashed Settled = false
is_clashed (Clashed r) = true
is_clashed Shut = false

abbrev pub clash : ℕ → ℕ → Clash
clash rule level = record { rule = rule; level = level }

-- a clash with this rule stands
abbrev pub clashed_with : State → ℕ → Bool
clashed_with Unsettled rule = false
clashed_with Settled rule = false
clashed_with (Clashed r) rule = r == rule
clashed_with Shut rule = false

-- a receipt of this clash is not that of the clash that stands
abbrev pub wrong_receipt : View → Clash → Bool
wrong_receipt v x = not (clashed_with v.state x.rule && v.level == x.level)

-- a level is at most 64
abbrev pub no_level : ℕ → Bool
no_level k = nat_lt 64 k

-- what was handed in
abbrev pub input_checks : Call → List Check
input_checks Settle = []
input_checks (Choose n) = check (no_literal n) refusal.OutOfRange ∷ []
input_checks (Back k) = check (no_level k) refusal.NoSuchPlace ∷ []
input_checks (BackFromClash x k) = check (no_level k) refusal.NoSuchPlace ∷ []
input_checks (Close x) = []

-- how things stand: 28, 27, then 22 to 26
abbrev pub state_checks : View → Call → List Check
state_checks v Settle = check (is_shut v.state) refusal.Shut ∷ check (is_clashed v.state) refusal.ClashStands ∷ []
state_checks v (Choose n) =
    check (is_shut v.state) refusal.Shut
    ∷ check (is_clashed v.state) refusal.ClashStands
    ∷ check (is_unsettled v.state) refusal.Unsettled
    ∷ check (stands_number (standing v.trail) n) refusal.Stands
    ∷ check (stands_number (standing v.trail) (neg_ℤ n)) refusal.OppositeStands
    ∷ []
state_checks v (Back k) =
    check (is_shut v.state) refusal.Shut ∷ check (is_clashed v.state) refusal.ClashStands ∷ check (nat_le v.level k) refusal.LevelNotBelow ∷ []
state_checks v (BackFromClash x k) =
    check (is_shut v.state) refusal.Shut ∷ check (wrong_receipt v x) refusal.WrongReceipt ∷ check (nat_le v.level k) refusal.LevelNotBelow ∷ []
state_checks v (Close x) = check (is_shut v.state) refusal.Shut ∷ check (wrong_receipt v x) refusal.WrongReceipt ∷ []

abbrev pub checks : View → Call → List Check
checks v c = input_checks c ++ state_checks v c

-- ---- what is done

-- an `Answer`, since antt has no name for an alias
abbrev pub Answered : Type 0
Answered = Result Reply Refusal

-- from the trail t each literal that the scan forces goes on the trail, locked by its rule at this level, until the scan is quiet or
-- broken: then the trail is u
pub data Settles (rules : List Meaning) (level : ℕ) : List Step → List Step → Verdict → Type 0 where
  quiet : {t : List Step} → Answers rules (standing t) Quiet → Settles rules level t t Quiet
  broken : {t : List Step} {r : ℕ} → Answers rules (standing t) (Broken r) → Settles rules level t t (Broken r)
  locks : {t u : List Step} {v : Verdict} {r : ℕ} {l : Literal} → Answers rules (standing t) (Forced r l)
      → Settles rules level (t ++ step l level (Some r) ∷ []) u v → Settles rules level t u v

-- quiet makes it settled, broken makes it clashed
abbrev pub state_by : Verdict → State
state_by Quiet = Settled
state_by (Broken r) = Clashed r
state_by (Forced r l) = Unsettled

-- quiet: by how many literals the trail grew; broken: the rule, the level and the letter of the shelf that holds the rule
abbrev pub Said : List Meaning → View → View → Verdict → Answered → Type 0
Said rules v w Quiet a = (n : ℕ) × (length v.trail + n ≡ length w.trail) × (a ≡ Ok (reply.Grown n))
Said rules v w (Broken r) a = OfRule rules r (λ m. a ≡ Ok (reply.Clash (clash r v.level) m.letter))
Said rules v w (Forced r l) a = ⊥

pub record SettledBy (rules : List Meaning) (v : View) (a : Answered) (w : View) : Type 0 where
  pub verdict : Verdict
  pub settles : Settles rules v.level v.trail w.trail verdict
  pub said : Said rules v w verdict a
  pub state : w.state ≡ state_by verdict
  pub level : w.level ≡ v.level

-- the level rises by one, the literal goes on the trail as chosen, and the session is unsettled
pub record Chose (v : View) (n : ℤ) (a : Answered) (w : View) : Type 0 where
  pub literal : Literal
  pub named : number literal ≡ n
  pub answer : a ≡ Ok reply.Done
  pub view : w ≡ record { state = Unsettled; level = v.level + 1; trail = v.trail ++ step literal (v.level + 1) None ∷ [] }

-- what stands above level k is dropped, and the session is settled
pub record WentBack (v : View) (k : ℕ) (a : Answered) (w : View) : Type 0 where
  pub answer : a ≡ Ok reply.Done
  pub view : w ≡ record { state = Settled; level = k; trail = up_to k v.trail }

-- the session is shut, and its trail stays
pub record Closed (v : View) (a : Answered) (w : View) : Type 0 where
  pub answer : a ≡ Ok reply.Done
  pub view : w ≡ record { state = Shut; level = v.level; trail = v.trail }

abbrev pub Did : List Meaning → View → Call → Answered → View → Type 0
Did rules v Settle a w = SettledBy rules v a w
Did rules v (Choose n) a w = Chose v n a w
Did rules v (Back k) a w = WentBack v k a w
Did rules v (BackFromClash x k) a w = WentBack v k a w
Did rules v (Close x) a w = Closed v a w

-- in the view v the call answers a and leaves the view w: refused by the first check that fails, and nothing changes; or done
pub data Does (rules : List Meaning) (v : View) (c : Call) (a : Answered) (w : View) : Type 0 where
  refused : (e : Refusal) → first_failed (checks v c) ≡ Some e → a ≡ Err e → w ≡ v → Does rules v c a w
  done : first_failed (checks v c) ≡ None → Did rules v c a w → Does rules v c a w
