-- What every list of calls keeps of a session.
use Rattle.std.proofs.Common.{◌≡◌, ℕ, ◌+◌, ◌<◌, Bool, true, false, cond, not, List, [], ◌∷◌, ◌++◌, length, take, ℤ, None, Ok, is_none, sym, refl, ap, ◌∙◌, subst, ap₂, ◌⊎◌, ⊎_elim, arith}
use Rattle.std.proofs.lemmas.List.{append-nil, map_push, length_push, length-take-le, take-map}
use Rattle.std.proofs.lemmas.Bool.{leb-false, and_from}
use Rattle.literals.specs.declared.literal.Literal.{Literal}
use Rattle.literals.specs.Literals.{number, opposite}
use Rattle.literals.specs.Refusals.{first_failed}
use Rattle.literals.specs.Settings.{stands, stands_number, free}
use Rattle.literals.proofs.Known.{number-opposite}
use Rattle.literals.proofs.Refused.{passed}
use Rattle.literals.proofs.Standing.{number-stands}
use Rattle.rules.specs.declared.Verdict.{Verdict}
use Rattle.rules.specs.declared.Verdict.TheVariants.{Quiet, Broken, Forced}
use Rattle.shelf.specs.Meanings.{Meaning, Answers}
use Rattle.runs.specs.declared.step.Step.{Step}
use Rattle.runs.specs.declared.calls.State.{State}
use Rattle.runs.specs.declared.calls.State.TheVariants.{Unsettled, Settled, Clashed, Shut}
use Rattle.runs.specs.declared.calls.Clash.{Clash}
use Rattle.runs.specs.declared.calls.Call.{Call}
use Rattle.runs.specs.declared.calls.Call.TheVariants.{Settle, Choose, Back, BackFromClash, Close}
use Rattle.runs.specs.declared.calls.Reply.TheVariants.{Done}
use Rattle.runs.specs.Views.{View, opened, standing, step}
use Rattle.runs.specs.Calls.{Answered, checks, is_shut, is_clashed, is_unsettled, state_by, Said, SettledBy, Chose, WentBack, Closed, Did, Does, refused, done}
use Rattle.runs.specs.Runs.{Event, event, Run, none, then, chosen_after, chosen_from, chosen_by}
use Rattle.runs.specs.Laws.{chosen_in}
use Rattle.runs.proofs.Verdicts.{true_false}
use Rattle.runs.proofs.Trails.{Trail, empty, chose, locked, numbers}
use Rattle.runs.proofs.Levels.{back_to, settle_trail}

-- the literals chosen by the calls made the trail; a settled session is quiet, and a clashed one has its rule broken
pub record Kept (rules : List Meaning) (c : List ℤ) (v : View) : Type 0 where
  pub chosen : List Literal
  pub named : numbers chosen ≡ c
  pub trail : Trail rules chosen v.trail
  pub level : v.level ≡ length chosen
  pub quiet : v.state ≡ Settled → Answers rules (standing v.trail) Quiet
  pub broken : (r : ℕ) → v.state ≡ Clashed r → Answers rules (standing v.trail) (Broken r)

-- ---- states are told apart

settled_not_clashed : {A : Type 0} (s : State) (r : ℕ) → s ≡ Settled → s ≡ Clashed r → A
settled_not_clashed s r p q = absurd cc

-- an unsettled or shut session is neither settled nor clashed
neither : {A : Type 0} (s : State) → (is_unsettled s ≡ true) ⊎ (is_shut s ≡ true) → s ≡ Settled → A
neither s h e = ⊎_elim (λ p. true_false p (ap is_unsettled e)) (λ p. true_false p (ap is_shut e)) h

nor : {A : Type 0} (s : State) (r : ℕ) → (is_unsettled s ≡ true) ⊎ (is_shut s ≡ true) → s ≡ Clashed r → A
nor s r h e = ⊎_elim (λ p. true_false p (ap is_unsettled e)) (λ p. true_false p (ap is_shut e)) h

clashed_rule : (s : State) (q r : ℕ) → s ≡ Clashed q → s ≡ Clashed r → q ≡ r
clashed_rule s q r a b = cc

-- ---- what the checks say of a call that is done

only_settled : (s : State) → is_shut s ≡ false → is_clashed s ≡ false → is_unsettled s ≡ false → s ≡ Settled
only_settled Unsettled p q r = cc
only_settled Settled p q r = refl
only_settled (Clashed k) p q r = cc
only_settled Shut p q r = cc

-- a literal is chosen only from a settled session, and only a free one
pub record Choosable (v : View) (l : Literal) : Type 0 where
  pub from : v.state ≡ Settled
  pub free : free (standing v.trail) l ≡ true

pub choosable : (v : View) (l : Literal) → None ≡ first_failed (checks v (Choose (number l))) → Choosable v l
choosable v l p =
    let each = passed (checks v (Choose (number l))) p in
    let on : stands (standing v.trail) l ≡ false = sym (number-stands (standing v.trail) l) ∙ each.1.1.1.1.0 in
    let off : stands (standing v.trail) (opposite l) ≡ false
    = sym (number-stands (standing v.trail) (opposite l)) ∙ ap (stands_number (standing v.trail)) (number-opposite l) ∙ each.1.1.1.1.1.0 in
    record { from = only_settled v.state each.1.0 each.1.1.0 each.1.1.1.0; free = and_from _ _ (ap not on) (ap not off) }

pub below_back : (v : View) (k : ℕ) → None ≡ first_failed (checks v (Back k)) → k < v.level
below_back v k p = leb-false v.level k (passed (checks v (Back k)) p).1.1.1.0

pub below_clash : (v : View) (x : Clash) (k : ℕ) → None ≡ first_failed (checks v (BackFromClash x k)) → k < v.level
below_clash v x k p = leb-false v.level k (passed (checks v (BackFromClash x k)) p).1.1.1.0

-- ---- one call

module _ (rules : List Meaning) where
  back_keeps : (c : List ℤ) (v w : View) (k : ℕ) (a : Answered) → Kept rules c v → k < v.level → WentBack v k a w → Kept rules (take k c) w
  back_keeps c v w k a i below b =
      let less : k < length i.chosen = omega (arith, i.level) in
      let l = back_to rules k i.trail less in
      let n : length (take k i.chosen) ≡ k = length-take-le k i.chosen (omega arith) in
      rw b.view
      (record {
        chosen = take k i.chosen;
        named = sym (take-map number k i.chosen) ∙ ap (take k) i.named;
        trail = l.trail;
        level = sym n;
        quiet = λ e. l.rests;
        broken = λ r e. absurd cc;
      })

  settle_keeps : (c : List ℤ) (v w : View) (a : Answered) → Kept rules c v → (s : SettledBy rules v a w) → Kept rules c w
  settle_keeps c v w a i s = by s.verdict (settle_trail rules v.level i.level s.settles i.trail).answer s.state s.said
    where
      made : (q : w.state ≡ Settled → Answers rules (standing w.trail) Quiet) (b : (r : ℕ) → w.state ≡ Clashed r → Answers rules (standing w.trail) (Broken r)) → Kept rules c w
      made q b =
          record {
            chosen = i.chosen;
            named = i.named;
            trail = (settle_trail rules v.level i.level s.settles i.trail).trail;
            level = s.level ∙ i.level;
            quiet = q;
            broken = b;
          }

      by : (d : Verdict) → Answers rules (standing w.trail) d → w.state ≡ state_by d → Said rules v w d a → Kept rules c w
      by Quiet h e said = made (λ _. h) (λ r f. absurd cc)
      by (Broken q) h e said =
          made (λ f. absurd cc) (λ r f. let same : q ≡ r = cc in rw (sym same) h)
      by (Forced r l) h e said = absurd said

  choose_keeps : (c : List ℤ) (v w : View) (n : ℤ) (a : Answered) → Kept rules c v → None ≡ first_failed (checks v (Choose n)) → Chose v n a w → Kept rules (c ++ n ∷ []) w
  choose_keeps c v w n a i p q =
      let l = q.literal in
      let can = choosable v l (subst (λ (m : ℤ). None ≡ first_failed (checks v (Choose m))) (sym q.named) p) in
      rw q.view
      (record {
        chosen = i.chosen ++ l ∷ [];
        named = map_push number i.chosen l ∙ ap₂ (λ (ns : List ℤ) (m : ℤ). ns ++ m ∷ []) i.named q.named;
        trail = chose (step l (v.level + 1) None) i.trail (i.quiet can.from) can.free (ap (λ (m : ℕ). m + 1) i.level) refl;
        level = ap (λ (m : ℕ). m + 1) i.level ∙ sym (length_push i.chosen l);
        quiet = λ e. absurd cc;
        broken = λ r e. absurd cc;
      })

  close_keeps : (c : List ℤ) (v w : View) (a : Answered) → Kept rules c v → Closed v a w → Kept rules c w
  close_keeps c v w a i z =
      rw z.view
      (record {
        chosen = i.chosen;
        named = i.named;
        trail = i.trail;
        level = i.level;
        quiet = λ e. absurd cc;
        broken = λ r e. absurd cc;
      })

  -- the chosen literals do not change where the answer is not that the call is done
  settle_chosen : (c : List ℤ) (v w : View) (a : Answered) (d : Verdict) → Said rules v w d a → chosen_after c (event Settle a) ≡ c
  settle_chosen c v w a Quiet said = ap (λ (x : Answered). chosen_after c (event Settle x)) said.2
  settle_chosen c v w a (Broken r) said = ap (λ (x : Answered). chosen_after c (event Settle x)) said.is
  settle_chosen c v w a (Forced r l) said = absurd said

  done_chosen : (c : List ℤ) (call : Call) (a : Answered) → a ≡ Ok Done → chosen_after c (event call a) ≡ chosen_after c (event call (Ok Done))
  done_chosen c call a e = ap (λ (x : Answered). chosen_after c (event call x)) e

  did_keeps : (c : List ℤ) (v w : View) (call : Call) (a : Answered) → Kept rules c v → None ≡ first_failed (checks v call) → Did rules v call a w → Kept rules (chosen_after c (event call a)) w
  did_keeps c v w Settle a i p d = rw (settle_chosen c v w a d.verdict d.said) (settle_keeps c v w a i d)
  did_keeps c v w (Choose n) a i p d = rw d.answer (choose_keeps c v w n a i p d)
  did_keeps c v w (Back k) a i p d = rw d.answer (back_keeps c v w k a i (below_back v k p) d)
  did_keeps c v w (BackFromClash x k) a i p d = rw d.answer (back_keeps c v w k a i (below_clash v x k p) d)
  did_keeps c v w (Close x) a i p d = rw d.answer (close_keeps c v w a i d)

  does_keeps : (c : List ℤ) (v w : View) (call : Call) (a : Answered) → Kept rules c v → Does rules v call a w → Kept rules (chosen_after c (event call a)) w
  does_keeps c v w call a i (refused e p q r) = rw (q, r) i
  does_keeps c v w call a i (done p d) = did_keeps c v w call a i (sym p) d

  -- ---- lists of calls

  chosen_push : (c : List ℤ) (es : List Event) (e : Event) → chosen_from c (es ++ e ∷ []) ≡ chosen_after (chosen_from c es) e
  chosen_push c [] e = refl
  chosen_push c (f ∷ es) e = chosen_push (chosen_after c f) es e

  pub run_keeps : {es : List Event} {w : View} → Run rules opened es w → Kept rules (chosen_by es) w
  run_keeps none =
      record {
        chosen = [];
        named = refl;
        trail = empty;
        level = refl;
        quiet = λ e. absurd cc;
        broken = λ r e. absurd cc;
      }
  run_keeps (then {es = es} {w = v} {x = w} {c = c} {a = a} run d) =
      rw (chosen_push [] es (event c a)) (does_keeps (chosen_by es) v w c a (run_keeps run) d)

-- ---- the chosen literals as the trail has them

chosen_append : (t : List Step) (x : Step) → chosen_in (t ++ x ∷ []) ≡ chosen_in t ++ chosen_in (x ∷ [])
chosen_append [] x = refl
chosen_append (y ∷ t) x = go (is_none y.rule) (chosen_append t x)
  where
    go : (b : Bool) → chosen_in (t ++ x ∷ []) ≡ chosen_in t ++ chosen_in (x ∷ [])
        → cond b (number y.literal ∷ chosen_in (t ++ x ∷ [])) (chosen_in (t ++ x ∷ [])) ≡ cond b (number y.literal ∷ chosen_in t) (chosen_in t) ++ chosen_in (x ∷ [])
    go true h = ap (λ (u : List ℤ). number y.literal ∷ u) h
    go false h = h

pub chosen_told : (rules : List Meaning) {c : List Literal} {t : List Step} → Trail rules c t → chosen_in t ≡ numbers c
chosen_told rules empty = refl
chosen_told rules (chose {c = c} {t = t} x back q f e z) =
    let b : is_none x.rule ≡ true = ap is_none z in
    chosen_append t x ∙ ap₂ (λ (u : List ℤ) (v : Bool). u ++ cond v (number x.literal ∷ []) []) (chosen_told rules back) b ∙ sym (map_push number c x.literal)
chosen_told rules (locked {c = c} {t = t} x back r a e z) =
    let b : is_none x.rule ≡ false = ap is_none z in
    chosen_append t x ∙ ap₂ (λ (u : List ℤ) (v : Bool). u ++ cond v (number x.literal ∷ []) []) (chosen_told rules back) b ∙ append-nil (numbers c)
