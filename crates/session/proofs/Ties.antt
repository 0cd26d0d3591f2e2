-- What each call does to a session.
use Rattle.std.proofs.Common.{◌≡◌, ℕ, ◌+◌, ◌-◌, ◌≤◌, true, cond, List, [], ◌∷◌, ◌++◌, length, take, ℤ, IfErr, Some, None, Option, Ok, Err, Result, sym, refl, ap, ◌∙◌, subst, arith, MatchResult}
use Rattle.std.proofs.lemmas.List.{take-map, length-map, length_push}
use Rattle.std.proofs.Math.Logic.{∥∥₁_elim, ∥∥₁_map}
use Rattle.std.proofs.Props.{props}
use Rattle.std.specs.Coded.{le_prop}
use Rattle.std.specs.Result.{IsErrAnd}
use Rattle.told.specs.Trails.{items_of}
use Rattle.literals.specs.declared.literal.Literal.{Literal}
use Rattle.literals.specs.declared.refusal.Refusal.{Refusal}
use Rattle.literals.specs.declared.refusal.Refusal.TheVariants.{OutOfRange}
use Rattle.literals.specs.Literals.{number, no_literal}
use Rattle.literals.specs.Refusals.{first_failed, refusal_of}
use Rattle.literals.specs.Settings.{free}
use Rattle.literals.proofs.Refused.{failed_before}
use Rattle.lists.specs.Lists.{distinct}
use Rattle.lists.proofs.Sets.{count_free}
use Rattle.rules.specs.declared.Verdict.{Verdict}
use Rattle.rules.specs.declared.Verdict.TheVariants.{Quiet, Broken}
use Rattle.rules.proofs.Numbers.{numbered_low, numbered_high}
use Rattle.shelf.specs.Meanings.{Meaning, OfRule, letter_checks}
use Rattle.shelf.proofs.Caps.{letter_there}
use Rattle.told.specs.Tellings.{back_checks}
use Rattle.told.proofs.Telling.{took_back}
use Rattle.runs.specs.declared.step.Step.{Step}
use Rattle.runs.specs.declared.calls.Call.{Call}
use Rattle.runs.specs.declared.calls.Call.TheVariants.{Settle, Choose, Back, BackFromClash, Close}
use Rattle.runs.specs.declared.calls.Clash.{Clash}
use Rattle.runs.specs.declared.calls.Reply.TheVariants as reply
use Rattle.runs.specs.declared.calls.State.{State}
use Rattle.runs.specs.declared.calls.State.TheVariants.{Unsettled, Settled, Shut}
use Rattle.runs.specs.Views.{View, opened, literals_on, standing, step, up_to}
use Rattle.runs.specs.Calls.{Answered, clash, checks, input_checks, state_checks, Settles, quiet, broken, locks, Does, refused, done as does}
use Rattle.runs.specs.Runs.{event, Run, Traced, none, then}
use Rattle.runs.proofs.Keeping.{run_keeps, choosable}
use Rattle.runs.proofs.Levels.{front_up_to}
use Rattle.runs.proofs.Onces.{settles_answer}
use Rattle.runs.proofs.Sureness.{chosen_once}
use Rattle.runs.proofs.Trails.{once}
use Rattle.session.specs.declared.log.Log.{Log}
use Rattle.session.specs.Logs.{view_of, Cut, Front, Reached, Sound, Ran}
use Rattle.session.specs.declared.receipt.Outcome.{Outcome}
use Rattle.session.specs.declared.receipt.Returned.{Returned}
use Rattle.session.specs.Outcomes.{done, settled, spent}

-- ---- refusals

pub refused_by : (rules : List Meaning) (v : View) (c : Call) (e : Refusal) → Some e ≡ first_failed (checks v c) → Does rules v c (Err e) v
refused_by rules v c e q = refused e (sym q) refl refl

-- what a `?` gives back is the refusal of the call
pub refused_done : (rules : List Meaning) (v : View) (c : Call) (r : Result (Unit {0}) Refusal) (e : Refusal) → IsErrAnd r (λ x. x ≡ e) → Some e ≡ first_failed (checks v c) → Does rules v c (done r) v
refused_done rules v c (Ok _) e h q = absurd h
refused_done rules v c (Err x) e h q = rw h (refused_by rules v c e q)

pub refused_settle : (rules : List Meaning) (v : View) (r : Result Outcome Refusal) (e : Refusal) → IsErrAnd r (λ x. x ≡ e) → Some e ≡ first_failed (checks v Settle) → Does rules v Settle (settled r) v
refused_settle rules v (Ok _) e h q = absurd h
refused_settle rules v (Err x) e h q = rw h (refused_by rules v Settle e q)

pub refused_spent : (rules : List Meaning) (v : View) (c : Call) (r : Result (Unit {0}) Returned) (e : Returned) → IsErrAnd r (λ x. x ≡ e) → Some e.refusal ≡ first_failed (checks v c) → Does rules v c (spent r) v
refused_spent rules v c (Ok _) e h q = absurd h
refused_spent rules v c (Err x) e h q = rw h (refused_by rules v c e.refusal q)

-- where the value is the same it is the same at a refusal
pub same_then : {T E X : Type 0} (r : Result T E) (x y : X) → x ≡ y → IfErr r (λ _. x ≡ y)
same_then (Ok _) x y p = tt
same_then (Err _) x y p = p

-- ---- some list of calls led to a view

pub opened_reached : (rules : List Meaning) (v : View) → v ≡ opened → Reached rules v
opened_reached rules v e = record { events = []; run = subst (λ (x : View). Run rules opened [] x) (sym e) none }

pub none_left : (E : Type 0) (r : Result (Unit {0}) Refusal) (ts us : List Literal) → refusal_of r ≡ first_failed (back_checks ts 0) → MatchResult r (λ _. us ≡ take 0 ts) (λ _. E) → us ≡ []
none_left E r ts us e h = took_back E r ts us 0 (omega arith) e h

-- a new log over a shelf that was told nothing: the literals are those of its trail, and no calls led here
pub opened_tied : (rules : List Meaning) (ls : List Literal) (g : Log) → ls ≡ [] → view_of g ≡ opened → Sound rules ls g
opened_tied rules ls g e v = record { told = e ∙ ap (λ (x : View). literals_on x.trail) (sym v); reached = opened_reached rules (view_of g) v }

module _ (rules : List Meaning) (v : View) (some : ∥ Reached rules v ∥₁) where
  -- a level begins with a chosen literal, and no switch is chosen twice
  pub level_small : v.level ≤ 64
  level_small =
      ∥∥₁_elim some le_prop
      (λ r. let k = run_keeps rules r.run in let a = count_free k.chosen (chosen_once rules k.trail) in let b = k.level in omega arith)

  pub each_once : distinct (literals_on v.trail) ≡ true
  each_once = ∥∥₁_elim some (hlevel props) (λ r. once rules (run_keeps rules r.run).trail)

  -- what is left at level k is the front that the log cuts to
  pub cut_to : (k n : ℕ) → Front k v.trail n → take n v.trail ≡ up_to k v.trail
  cut_to k n f = ∥∥₁_elim some (hlevel props) (λ r. front_up_to rules k n (run_keeps rules r.run).trail f.few f.all f.last)

-- the view after a call
pub next : (rules : List Meaning) (v : View) → Reached rules v → (rules' : List Meaning) (w : View) (c : Call) (a : Answered) → Does rules v c a w → rules' ≡ rules → Reached rules' w
next rules v r rules' w c a d e = subst (λ (ms : List Meaning). Reached ms w) (sym e) (record { events = r.events ++ event c a ∷ []; run = then r.run d })

pub traced : (rules : List Meaning) (v : View) (t : List Step) → ∥ Reached rules v ∥₁ → t ≡ v.trail → ∥ Traced rules t ∥₁
traced rules v t some e = ∥∥₁_map some (λ r. record { view = v; events = r.events; run = r.run; trail = sym e })

pub cut_told : (E : Type 0) (t u : List Step) (k : ℕ) (ls after : List Literal) (r : Result (Unit {0}) Refusal) (c : Cut k t u) → ls ≡ literals_on t
    → refusal_of r ≡ first_failed (back_checks ls c.left) → MatchResult r (λ _. after ≡ take c.left ls) (λ _. E) → after ≡ literals_on u
cut_told E t u k ls after r c told q h =
    let n = c.left in
    let long : length ls ≡ length t = ap length told ∙ length-map t (λ (x : Step). x.literal) in
    let few = c.front.few in
    took_back E r ls after n (omega arith) q h ∙ ap (take n) told ∙ take-map (λ (x : Step). x.literal) n t ∙ ap literals_on (sym c.is)

-- ---- what is done

viewed : (w : View) (s : State) (k : ℕ) (t : List Step) → w.state ≡ s → w.level ≡ k → w.trail ≡ t → w ≡ record { state = s; level = k; trail = t }
viewed w s k t p q r =
    ap (λ (x : State). record { state = x; level = w.level; trail = w.trail }) p ∙ ap (λ (n : ℕ). record { state = s; level = n; trail = w.trail }) q
    ∙ ap (λ (u : List Step). record { state = s; level = k; trail = u }) r

-- the log after going back: what is left at level k is the front that it cuts to
pub dropped : (rules : List Meaning) (g h : Log) (k : ℕ) → ∥ Reached rules (view_of g) ∥₁ → Cut k (items_of g.trail) (items_of h.trail) → h.state ≡ Settled → h.level ≡ k
    → view_of h ≡ record { state = Settled; level = k; trail = up_to k (items_of g.trail) }
dropped rules g h k some c state level = viewed (view_of h) Settled k (up_to k (items_of g.trail)) state level (c.is ∙ cut_to rules (view_of g) some k c.left c.front)

pub back_done : (rules : List Meaning) (v w : View) (k : ℕ) → None ≡ first_failed (checks v (Back k)) → w ≡ record { state = Settled; level = k; trail = up_to k v.trail } → Does rules v (Back k) (Ok reply.Done) w
back_done rules v w k p e = does (sym p) (record { answer = refl; view = e })

pub back_from_done : (rules : List Meaning) (v w : View) (x : Clash) (k : ℕ) → None ≡ first_failed (checks v (BackFromClash x k))
    → w ≡ record { state = Settled; level = k; trail = up_to k v.trail } → Does rules v (BackFromClash x k) (Ok reply.Done) w
back_from_done rules v w x k p e = does (sym p) (record { answer = refl; view = e })

pub close_done : (rules : List Meaning) (v w : View) (x : Clash) → None ≡ first_failed (checks v (Close x)) → w ≡ record v { state = Shut } → Does rules v (Close x) (Ok reply.Done) w
close_done rules v w x p e = does (sym p) (record { answer = refl; view = e })

pub choose_done : (rules : List Meaning) (v w : View) (l : Literal) (n : ℤ) → None ≡ first_failed (checks v (Choose n)) → number l ≡ n → w.trail ≡ v.trail ++ step l (v.level + 1) None ∷ []
    → w.state ≡ Unsettled → w.level ≡ v.level + 1 → Does rules v (Choose n) (Ok reply.Done) w
choose_done rules v w l n p e s t k =
    does (sym p) (record { literal = l; named = e; answer = refl; view = viewed w Unsettled (v.level + 1) _ t k s })

-- a choice that is refused for what it names, or taken
pub choose_outside : (v : View) (n : ℤ) (e : Refusal) → Some e ≡ cond (no_literal n) (Some OutOfRange) None → Some e ≡ first_failed (checks v (Choose n))
choose_outside v n e q = failed_before (input_checks (Choose n)) (state_checks v (Choose n)) e q

pub choose_free : (v : View) (l : Literal) (n : ℤ) → number l ≡ n → None ≡ first_failed (checks v (Choose n)) → free (standing v.trail) l ≡ true
choose_free v l n e p = (choosable v l (subst (λ (k : ℤ). None ≡ first_failed (checks v (Choose k))) (sym e) p)).free

pub settle_quiet : (rules : List Meaning) (g h : Log) (n : ℕ) → None ≡ first_failed (checks (view_of g) Settle) → Ran rules g None h → length (items_of g.trail) + n ≡ length (items_of h.trail)
    → Does rules (view_of g) Settle (Ok (reply.Grown n)) (view_of h)
settle_quiet rules g h n p r e =
    does (sym p) (record { verdict = Quiet; settles = r.settles; said = (n, e, refl); state = r.state; level = r.level })

pub settle_broken : (rules : List Meaning) (g h : Log) (r c : ℕ) → None ≡ first_failed (checks (view_of g) Settle) → Ran rules g (Some r) h → OfRule rules r (λ m. c ≡ m.letter)
    → Does rules (view_of g) Settle (Ok (reply.Clash (clash r h.level) c)) (view_of h)
settle_broken rules g h r c p q o =
    does (sym p)
    (record {
      verdict = Broken r;
      settles = q.settles;
      said = record { rule = o.rule; numbered = o.numbered; is = ap (λ (k : ℕ). Ok (reply.Clash (clash r k) c)) q.level ∙ ap (λ (k : ℕ). Ok (reply.Clash (clash r g.level) k)) o.is };
      state = q.state;
      level = q.level;
    })

-- settling makes a trail longer
pub settles_longer : (rules : List Meaning) (level : ℕ) {t u : List Step} {v : Verdict} → Settles rules level t u v → length t ≤ length u
settles_longer rules level (quiet a) = omega arith
settles_longer rules level (broken a) = omega arith
settles_longer rules level (locks {t = t} {r = r} {l = l} a s) = let n = length_push t (step l level (Some r)) in let h = settles_longer rules level s in omega arith

-- the rule that is broken at the end is one of the rules
pub broken_there : {A : Type 0} (rules rules' : List Meaning) (g h : Log) (r : ℕ) (e : Refusal) → rules' ≡ rules → Ran rules g (Some r) h → Some e ≡ first_failed (letter_checks rules' r) → A
broken_there rules rules' g h r e same q p =
    let a = settles_answer rules g.level q.settles in
    let there = letter_there rules r (numbered_low a.numbered) (numbered_high a.numbered) in
    let here = p ∙ ap (λ (ms : List Meaning). first_failed (letter_checks ms r)) same in
    let z : ◌≡◌ {A = ℕ} 0 1 = cc in
    absurd (omega arith)

-- whatever came of settling, some call did it
pub ran_does : (rules : List Meaning) (g h : Log) (r : Option ℕ) → None ≡ first_failed (checks (view_of g) Settle) → Ran rules g r h → (a : Answered) × Does rules (view_of g) Settle a (view_of h)
ran_does rules g h None p q =
    let longer = settles_longer rules g.level q.settles in
    let n = length (items_of h.trail) - length (items_of g.trail) in
    (Ok (reply.Grown n), settle_quiet rules g h n p q (omega (arith, longer)))
ran_does rules g h (Some r) p q =
    let a = settles_answer rules g.level q.settles in
    (_, settle_broken rules g h r a.rule.letter p q (record { rule = a.rule; numbered = a.numbered; is = refl }))
