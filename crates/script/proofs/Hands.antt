-- The receipt in hand is that of the clash that stands, after every request.
use Rattle.std.proofs.Common.{◌≡◌, ℕ, Bool, true, false, List, ℤ, Some, None, Option, Ok, Err, sym, ap, ◌∙◌, subst, arith}
use Rattle.literals.specs.declared.literal.Literal.{Literal}
use Rattle.literals.specs.declared.refusal.Refusal.{Refusal}
use Rattle.literals.proofs.Refused.{passed}
use Rattle.rules.specs.declared.Verdict.{Verdict}
use Rattle.rules.specs.declared.Verdict.TheVariants.{Quiet, Broken, Forced}
use Rattle.shelf.specs.Meanings.{Meaning}
use Rattle.runs.specs.declared.calls.State.TheVariants.{Clashed}
use Rattle.runs.specs.declared.calls.Clash.{Clash}
use Rattle.runs.specs.declared.calls.Call.{Call}
use Rattle.runs.specs.declared.calls.Call.TheVariants as call
use Rattle.runs.specs.declared.calls.Reply.TheVariants as reply
use Rattle.runs.specs.Views.{View}
use Rattle.runs.specs.Calls.{Answered, is_clashed, checks, Said, state_by, Does, refused, done}
use Rattle.session.specs.declared.receipt.Receipt.{Receipt}
use Rattle.session.specs.Logs.{Sound}
use Rattle.session.specs.Sessions.{Session, seen}
use Rattle.script.specs.declared.request.Request.{Request}
use Rattle.script.specs.Players.{Player, Hand}
use Rattle.script.specs.Plays.{call_of, Wants, Out, NoneOut, Plays, called}

-- ---- where no clash stands, nothing is held

true_false : {A : Type 0} {b : Bool} → b ≡ true → b ≡ false → A
true_false p q = cc

pub none_out : (w : View) → is_clashed w.state ≡ false → NoneOut w
none_out w e r s = true_false (ap is_clashed s) e

hand_after : (v w : View) (h : Option Receipt) → is_clashed v.state ≡ false → is_clashed w.state ≡ false → Hand v h → Hand w h
hand_after v w None e f hand = none_out w f
hand_after v w (Some x) e f hand = true_false (ap is_clashed hand.clash) e

pub same_hand : (v w : View) (h : Option Receipt) → w ≡ v → Hand v h → Hand w h
same_hand v w h e hand = subst (λ (x : View). Hand x h) (sym e) hand

-- ---- call by call

module _ (rules : List Meaning) (v w : View) (h : Option Receipt) (hand : Hand v h) where
  pub hand_choose : (n : ℤ) (a : Answered) → Does rules v (call.Choose n) a w → Hand w h
  hand_choose n a (refused e q p same) = same_hand v w h same hand
  hand_choose n a (done q d) = hand_after v w h (passed (checks v (call.Choose n)) (sym q)).1.1.0 (ap (λ (x : View). is_clashed x.state) d.view) hand

  pub hand_back : (k : ℕ) (a : Answered) → Does rules v (call.Back k) a w → Hand w h
  hand_back k a (refused e q p same) = same_hand v w h same hand
  hand_back k a (done q d) = hand_after v w h (passed (checks v (call.Back k)) (sym q)).1.1.0 (ap (λ (x : View). is_clashed x.state) d.view) hand

  pub hand_refused : (c : Call) (e : Refusal) → Does rules v c (Err e) w → w ≡ v → Hand w h
  hand_refused c e d same = same_hand v w h same hand

module _ (rules : List Meaning) (v w : View) where
  pub spent_back : (x : Clash) (k : ℕ) → Does rules v (call.BackFromClash x k) (Ok reply.Done) w → NoneOut w
  spent_back x k (refused e q p same) = let z : ◌≡◌ {A = ℕ} 0 1 = cc in absurd (omega arith)
  spent_back x k (done q d) = none_out w (ap (λ (x : View). is_clashed x.state) d.view)

  pub spent_close : (x : Clash) → Does rules v (call.Close x) (Ok reply.Done) w → NoneOut w
  spent_close x (refused e q p same) = let z : ◌≡◌ {A = ℕ} 0 1 = cc in absurd (omega arith)
  spent_close x (done q d) = none_out w (ap (λ (x : View). is_clashed x.state) d.view)

  quiet_state : (n : ℕ) (u : Verdict) → Said rules v w u (Ok (reply.Grown n)) → w.state ≡ state_by u → is_clashed w.state ≡ false
  quiet_state n Quiet s e = ap is_clashed e
  quiet_state n (Broken r) s e = let p = s.is in let z : ◌≡◌ {A = ℕ} 0 1 = cc in absurd (omega arith)
  quiet_state n (Forced r l) s e = absurd s

  pub settled_quiet : (n : ℕ) → Does rules v call.Settle (Ok (reply.Grown n)) w → NoneOut w
  settled_quiet n (refused e q p same) = let z : ◌≡◌ {A = ℕ} 0 1 = cc in absurd (omega arith)
  settled_quiet n (done q d) = none_out w (quiet_state n d.verdict d.said d.state)

  clash_state : (x : Clash) (letter : ℕ) (u : Verdict) → Said rules v w u (Ok (reply.Clash x letter)) → w.state ≡ state_by u → w.level ≡ v.level → Out w x
  clash_state x letter Quiet s e f = let p = s.2 in let z : ◌≡◌ {A = ℕ} 0 1 = cc in absurd (omega arith)
  clash_state x letter (Broken r) s e f =
      let p = s.is in
      let same : x.rule ≡ r = cc in
      let at : x.level ≡ v.level = cc in
      record { clash = e ∙ ap Clashed (sym same); at = f ∙ sym at }
  clash_state x letter (Forced r l) s e f = absurd s

  pub settled_clash : (x : Clash) (letter : ℕ) → Does rules v call.Settle (Ok (reply.Clash x letter)) w → Out w x
  settled_clash x letter (refused e q p same) = let z : ◌≡◌ {A = ℕ} 0 1 = cc in absurd (omega arith)
  settled_clash x letter (done q d) = clash_state x letter d.verdict d.said d.state d.level

-- ---- a player that gave an answer

module _ {S : Type 0} (rules : S → List Meaning) (told : S → List Literal) (p q : Player S) (t : Session S) (h : Option Receipt) (r : Option Answered) (a : Answered)
    (is : q.session ≡ t) (held : q.held ≡ h) (said : r ≡ Some a) where
  pub moved_sound : Sound (rules t.tied.shelf) (told t.tied.shelf) t.tied.log → Hand (seen t) h
      → Sound (rules q.session.tied.shelf) (told q.session.tied.shelf) q.session.tied.log × Hand (seen q.session) q.held
  moved_sound sound hand = (
    subst (λ (x : Session S). Sound (rules x.tied.shelf) (told x.tied.shelf) x.tied.log) (sym is) sound,
    subst (λ (x : Session S). Hand (seen x) q.held) (sym is) (subst (Hand (seen t)) (sym held) hand),
  )

  pub moved_rules : rules t.tied.shelf ≡ rules p.session.tied.shelf → rules q.session.tied.shelf ≡ rules p.session.tied.shelf
  moved_rules e = ap (λ (x : Session S). rules x.tied.shelf) is ∙ e

  pub moved_plays : (req : Request) (x : Clash) → (Wants req → Out (seen p.session) x)
      → Does (rules p.session.tied.shelf) (seen p.session) (call_of req x) a (seen t)
      → Plays (rules p.session.tied.shelf) (seen p.session) req r (seen q.session)
  moved_plays req x out d =
      subst (λ (y : Option Answered). Plays (rules p.session.tied.shelf) (seen p.session) req y (seen q.session)) (sym said)
      (subst (λ (y : Session S). Plays (rules p.session.tied.shelf) (seen p.session) req (Some a) (seen y)) (sym is) (called x out d))
