-- For every view and call there is exactly one answer and one outcome.
use Rattle.std.proofs.Common.{◌≡◌, ℕ, zero, suc, ◌+◌, ◌≤◌, true, false, List, [], ◌∷◌, ◌++◌, length, ℤ, pos, negsuc, neg_ℤ, Some, None, Ok, Err, Option, sym, refl, ap, ◌∙◌, arith}
use Rattle.std.proofs.lemmas.List.{length_push}
use Rattle.std.proofs.lemmas.Bool.{or_parts, ltb-false}
use Rattle.literals.specs.declared.literal.Literal.{Literal}
use Rattle.literals.specs.declared.refusal.Refusal.{Refusal}
use Rattle.literals.specs.declared.setting.Setting.{Setting}
use Rattle.literals.specs.Literals.{number, no_literal}
use Rattle.literals.specs.Refusals.{first_failed}
use Rattle.literals.specs.Settings.{free_count}
use Rattle.literals.proofs.Freedom.{free_count-plus}
use Rattle.literals.proofs.Known.{number_same}
use Rattle.literals.proofs.Refused.{passed}
use Rattle.rules.specs.declared.Verdict.{Verdict}
use Rattle.rules.specs.declared.Verdict.TheVariants.{Quiet, Broken, Forced}
use Rattle.rules.proofs.Numbers.{numbered_one}
use Rattle.shelf.specs.Meanings.{Meaning, Answers}
use Rattle.runs.specs.declared.step.Step.{Step}
use Rattle.runs.specs.declared.calls.State.{State}
use Rattle.runs.specs.declared.calls.Call.{Call}
use Rattle.runs.specs.declared.calls.Call.TheVariants.{Settle, Choose, Back, BackFromClash, Close}
use Rattle.runs.specs.declared.calls.Reply.TheVariants as reply
use Rattle.runs.specs.Views.{View, standing, step}
use Rattle.runs.specs.Calls.{Answered, clash, checks, Settles, quiet, broken, locks, state_by, Said, SettledBy, Chose, Did, Does, refused, done}
use Rattle.runs.specs.Laws.{One}
use Rattle.runs.proofs.Verdicts.{answers_one, answers_some}
use Rattle.runs.proofs.Trails.{standing-push}

-- ---- verdicts are told apart

-- what is forced is neither quiet nor broken
not_forced : {A : Type 0} (r : ℕ) (l : Literal) (v : Verdict) → v ≡ Forced r l → (v ≡ Quiet → A) × ((q : ℕ) → v ≡ Broken q → A)
not_forced r l v e = ((λ f. absurd cc), (λ q f. absurd cc))

-- it is forced by one rule, and is one literal
forced_parts : (q r : ℕ) (k l : Literal) → Forced q k ≡ Forced r l → (q ≡ r) × (k ≡ l)
forced_parts q r k l e = (cc, cc)

-- ---- settling ends in one way

module _ (rules : List Meaning) (level : ℕ) where
  settles_one : {t u u' : List Step} {v v' : Verdict} → Settles rules level t u v → Settles rules level t u' v' → (u ≡ u') × (v ≡ v')
  settles_one (quiet {t = t} a) (quiet b) = (refl, refl)
  settles_one (quiet {t = t} a) (broken b) = (refl, answers_one rules (standing t) _ _ a b)
  settles_one (quiet {t = t} a) (locks {r = r} {l = l} b s) = let e = answers_one rules (standing t) Quiet (Forced r l) a b in absurd cc
  settles_one (broken {t = t} a) (quiet b) = (refl, answers_one rules (standing t) _ _ a b)
  settles_one (broken {t = t} a) (broken b) = (refl, answers_one rules (standing t) _ _ a b)
  settles_one (broken {t = t} {r = q} a) (locks {r = r} {l = l} b s) = let e = answers_one rules (standing t) (Broken q) (Forced r l) a b in absurd cc
  settles_one (locks {t = t} {r = r} {l = l} a s) (quiet b) = let e = answers_one rules (standing t) Quiet (Forced r l) b a in absurd cc
  settles_one (locks {t = t} {r = r} {l = l} a s) (broken {r = q} b) = let e = answers_one rules (standing t) (Broken q) (Forced r l) b a in absurd cc
  settles_one (locks {t = t} {r = r} {l = l} a s) (locks {u = u} {v = v} {r = q} {l = k} b s') =
      let e = answers_one rules (standing t) (Forced q k) (Forced r l) b a in
      let same : t ++ step k level (Some q) ∷ [] ≡ t ++ step l level (Some r) ∷ [] = cc in
      settles_one s (rw (sym same) s')

  pub settles_answer : {t u : List Step} {v : Verdict} → Settles rules level t u v → Answers rules (standing u) v
  settles_answer (quiet a) = a
  settles_answer (broken a) = a
  settles_answer (locks a s) = settles_answer s

  record Ends (t : List Step) : Type 0 where
    pub trail : List Step
    pub verdict : Verdict
    pub settles : Settles rules level t trail verdict
    pub longer : (n : ℕ) × (length t + n ≡ length trail)
    pub final : (r : ℕ) (l : Literal) → verdict ≡ Forced r l → ⊥

  turn : (t : List Step) → ((r : ℕ) (l : Literal) → Answers rules (standing t) (Forced r l) → Ends (t ++ step l level (Some r) ∷ [])) → (v : Verdict) → Answers rules (standing t) v → Ends t
  turn t next Quiet a = record { trail = t; verdict = Quiet; settles = quiet a; longer = (0, omega arith); final = λ r l e. cc }
  turn t next (Broken q) a = record { trail = t; verdict = Broken q; settles = broken a; longer = (0, omega arith); final = λ r l e. cc }
  turn t next (Forced r l) a =
      let rest = next r l a in
      let n = length_push t (step l level (Some r)) in
      let k = rest.longer.1 in
      record { trail = rest.trail; verdict = rest.verdict; settles = locks a rest.settles; longer = (rest.longer.0 + 1, omega (arith, k, n)); final = rest.final }

  fewer_free : (t : List Step) (r : ℕ) (l : Literal) → Answers rules (standing t) (Forced r l) → free_count (standing (t ++ step l level (Some r) ∷ [])) + 1 ≡ free_count (standing t)
  fewer_free t r l a = ap (λ (s : Setting). free_count s + 1) (standing-push t (step l level (Some r))) ∙ free_count-plus (standing t) l a.here.forced.free

  -- each literal locked takes one free switch, so settling ends
  ends : (n : ℕ) (t : List Step) → free_count (standing t) ≤ n → Ends t
  ends zero t h = turn t (λ r l a. let f = fewer_free t r l a in absurd (omega arith)) (answers_some rules (standing t)).0 (answers_some rules (standing t)).1
  ends (suc n) t h = turn t (λ r l a. let f = fewer_free t r l a in ends n (t ++ step l level (Some r) ∷ []) (omega arith)) (answers_some rules (standing t)).0 (answers_some rules (standing t)).1

-- ---- what is done is one thing

abbrev view : State → ℕ → List Step → View
view s n t = record { state = s; level = n; trail = t }

view_same : (v w : View) → v.state ≡ w.state → v.level ≡ w.level → v.trail ≡ w.trail → v ≡ w
view_same v w p q r = let e : view v.state v.level v.trail ≡ view w.state w.level w.trail = cc in e

-- a number that is not refused is that of a literal
pub literal_there : (n : ℤ) → no_literal n ≡ false → (l : Literal) × (number l ≡ n)
literal_there (pos k) h =
    let p = or_parts _ _ h in
    let low = ltb-false k 1 p.0 in
    let high = ltb-false 64 k p.1 in
    (record { switch = k; on = true; range = (low, high) }, refl)
literal_there (negsuc k) h =
    let p = or_parts _ _ h in
    let low = ltb-false (k + 1) 1 p.0 in
    let high = ltb-false 64 (k + 1) p.1 in
    let e : k + 1 ≡ suc k = omega arith in
    (record { switch = k + 1; on = false; range = (low, high) }, ap (λ (j : ℕ). neg_ℤ (pos j)) e)

module _ (rules : List Meaning) (v : View) where
  abbrev Outcome : (Answered → View → Type 0) → Type 0
  Outcome D = (a : Answered) × (w : View) × D a w

  abbrev Unique : (Answered → View → Type 0) → Type 0
  Unique D = (a b : Answered) (w x : View) → D a w → D b x → (a ≡ b) × (w ≡ x)

  -- ---- settling

  abbrev after : Ends rules v.level v.trail → View
  after e = record { state = state_by e.verdict; level = v.level; trail = e.trail }

  answered : (e : Ends rules v.level v.trail) → (d : Verdict) → e.verdict ≡ d → Settles rules v.level v.trail e.trail d → (a : Answered) × Said rules v (after e) d a
  answered e Quiet q s = (Ok (reply.Grown e.longer.0), (e.longer.0, e.longer.1, refl))
  answered e (Broken r) q s = let b = settles_answer rules v.level s in (Ok (reply.Clash (clash r v.level) b.rule.letter), record { rule = b.rule; numbered = b.numbered; is = refl })
  answered e (Forced r l) q s = absurd (e.final r l q)

  some_settle : Outcome (SettledBy rules v)
  some_settle =
      let e = ends rules v.level (free_count (standing v.trail)) v.trail (omega arith) in
      let s = answered e e.verdict refl e.settles in
      (s.0, after e, record { verdict = e.verdict; settles = e.settles; said = s.1; state = refl; level = refl })

  said_one : (w x : View) (d : Verdict) (a b : Answered) → w.trail ≡ x.trail → Said rules v w d a → Said rules v x d b → a ≡ b
  said_one w x Quiet a b e p q = let same : p.0 ≡ q.0 = omega (arith, p.1, q.1, ap length e) in cc (p.2, q.2)
  said_one w x (Broken r) a b e p q = cc (numbered_one p.numbered q.numbered)
  said_one w x (Forced r l) a b e p q = absurd p

  one_settle : Unique (SettledBy rules v)
  one_settle a b w x p q =
      let e = settles_one rules v.level p.settles q.settles in (
        said_one w x q.verdict a b e.0 (rw (sym e.1) p.said) q.said,
        view_same w x (cc) (cc) e.0,
      )

  -- ---- choosing

  some_choose : (n : ℤ) → no_literal n ≡ false → Outcome (Chose v n)
  some_choose n h = let l = literal_there n h in (Ok reply.Done, _, record { literal = l.0; named = l.1; answer = refl; view = refl })

  one_choose : (n : ℤ) → Unique (Chose v n)
  one_choose n a b w x p q =
      let e = number_same p.literal q.literal (p.named ∙ sym q.named) in
      (cc, cc)

  -- ---- every call

  some_did : (c : Call) → None ≡ first_failed (checks v c) → Outcome (Did rules v c)
  some_did Settle p = some_settle
  some_did (Choose n) p = some_choose n (passed (checks v (Choose n)) p).0
  some_did (Back k) p = (Ok reply.Done, _, record { answer = refl; view = refl })
  some_did (BackFromClash x k) p = (Ok reply.Done, _, record { answer = refl; view = refl })
  some_did (Close x) p = (Ok reply.Done, _, record { answer = refl; view = refl })

  one_did : (c : Call) → Unique (Did rules v c)
  one_did Settle a b w x p q = one_settle a b w x p q
  one_did (Choose n) a b w x p q = one_choose n a b w x p q
  one_did (Back k) a b w x p q = (cc, cc)
  one_did (BackFromClash y k) a b w x p q = (cc, cc)
  one_did (Close y) a b w x p q = (cc, cc)

  one_refused : (c : Call) (e : Refusal) → first_failed (checks v c) ≡ Some e → (a : Answered) (w : View) → Does rules v c a w → (a ≡ Err e) × (w ≡ v)
  one_refused c e p a w (refused d q r s) = (cc, s)
  one_refused c e p a w (done q d) = cc

  one_done : (c : Call) → first_failed (checks v c) ≡ None → (a b : Answered) (w x : View) → Did rules v c b x → Does rules v c a w → (a ≡ b) × (w ≡ x)
  one_done c p a b w x d (refused e q r s) = cc
  one_done c p a b w x d (done q d') = one_did c a b w x d' d

  pub one : (c : Call) → One rules v c
  one c = by (first_failed (checks v c)) refl
    where
      by : (o : Option Refusal) → first_failed (checks v c) ≡ o → One rules v c
      by (Some e) p = record { answer = Err e; view = v; does = refused e p refl refl; only = one_refused c e p }
      by None p =
          let d = some_did c (sym p) in
          record { answer = d.0; view = d.1; does = done p d.2; only = λ a w q. one_done c p a d.0 w d.1 d.2 q }
