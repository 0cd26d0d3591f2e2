-- What the turns of settling keep.
use Rattle.std.proofs.Common.{◌≡◌, ℕ, true, List, [], ◌∷◌, ◌++◌, ℤ, Some, None, Result, refl, sym, ap, ◌∙◌, subst, MatchResult}
use Rattle.told.specs.Trails.{items_of}
use Rattle.literals.specs.declared.literal.Literal.{Literal}
use Rattle.literals.specs.declared.refusal.Refusal.{Refusal}
use Rattle.literals.specs.Literals.{number}
use Rattle.literals.specs.Refusals.{first_failed, refusal_of}
use Rattle.literals.specs.Settings.{free, set_of}
use Rattle.rules.specs.declared.Verdict.{Verdict}
use Rattle.rules.specs.declared.Verdict.TheVariants.{Quiet, Broken, Forced}
use Rattle.shelf.specs.Meanings.{Meaning, Answers}
use Rattle.told.specs.Tellings.{Appended, tell_checks}
use Rattle.told.proofs.Telling.{tells_free}
use Rattle.runs.specs.declared.step.Step.{Step}
use Rattle.runs.specs.declared.calls.State.TheVariants.{Settled, Clashed}
use Rattle.runs.specs.Views.{literals_on, standing, step}
use Rattle.runs.specs.Calls.{Settles, quiet, broken, locks}
use Rattle.runs.proofs.Trails.{literals-push}
use Rattle.session.specs.declared.log.Log.{Log}
use Rattle.session.specs.Logs.{Ran}

-- what a shelf has that was told the literals of the trail
pub free_told : (t : List Step) (ls : List Literal) (l : Literal) → ls ≡ literals_on t → free (standing t) l ≡ true → free (set_of ls) l ≡ true
free_told t ls l e f = subst (λ (ms : List Literal). free (set_of ms) l ≡ true) (sym e) f

pub put_told : (E : Type 0) (t u : List Step) (x : Step) (ls after : List Literal) (n : ℤ) (r : Result (Unit {0}) Refusal) → ls ≡ literals_on t → free (standing t) x.literal ≡ true → number x.literal ≡ n
    → refusal_of r ≡ first_failed (tell_checks ls n) → MatchResult r (λ _. Appended ls n after) (λ _. E) → u ≡ t ++ x ∷ [] → after ≡ literals_on u
put_told E t u x ls after n r e f is q c st =
    tells_free E ls after x.literal n r is (free_told t ls x.literal e f) q c ∙ ap (λ (ms : List Literal). ms ++ x.literal ∷ []) e ∙ sym (literals-push t x) ∙ ap literals_on (sym st)

-- ---- turn by turn

-- g is the log where settling began, h the log now: what settles from now on settles from there
pub record Going (rules : List Meaning) (g h : Log) : Type 0 where
  pub settles : (u : List Step) (v : Verdict) → Settles rules g.level (items_of h.trail) u v → Settles rules g.level (items_of g.trail) u v
  pub level : h.level ≡ g.level

-- where settling begins nothing has changed
pub start : (rules : List Meaning) (g : Log) → Going rules g g
start rules g = record { settles = λ u v s. s; level = refl }

pub again : (rules : List Meaning) (g h i : Log) (r : ℕ) (l : Literal) → Going rules g h → Answers rules (standing (items_of h.trail)) (Forced r l)
    → items_of i.trail ≡ items_of h.trail ++ step l h.level (Some r) ∷ [] → i.level ≡ h.level → Going rules g i
again rules g h i r l o a steps level =
    let e : items_of i.trail ≡ items_of h.trail ++ step l g.level (Some r) ∷ [] = steps ∙ ap (λ (n : ℕ). items_of h.trail ++ step l n (Some r) ∷ []) o.level in
    record { settles = λ u v s. o.settles u v (locks a (subst (λ (t : List Step). Settles rules g.level t u v) e s)); level = level ∙ o.level }

-- what the shelf answers of its told literals it answers of the trail
pub asked : (rules rules' : List Meaning) (ls : List Literal) (t : List Step) (v : Verdict) → ls ≡ literals_on t → rules ≡ rules' → Answers rules (set_of ls) v → Answers rules' (standing t) v
asked rules rules' ls t v told e a =
    subst (λ (ms : List Meaning). Answers ms (standing t) v) e (subst (λ (ms : List Literal). Answers rules (set_of ms) v) told a)

-- ---- the last turn: i is the log h with its state set

pub ran_quiet : (rules : List Meaning) (g h i : Log) → Going rules g h → Answers rules (standing (items_of h.trail)) Quiet → items_of i.trail ≡ items_of h.trail → i.state ≡ Settled → i.level ≡ h.level
    → Ran rules g None i
ran_quiet rules g h i o a steps state level =
    record { settles = rw steps (o.settles _ Quiet (quiet a)); state = state; level = level ∙ o.level }

pub ran_broken : (rules : List Meaning) (g h i : Log) (r : ℕ) → Going rules g h → Answers rules (standing (items_of h.trail)) (Broken r) → items_of i.trail ≡ items_of h.trail → i.state ≡ Clashed r → i.level ≡ h.level
    → Ran rules g (Some r) i
ran_broken rules g h i r o a steps state level =
    record { settles = rw steps (o.settles _ (Broken r) (broken a)); state = state; level = level ∙ o.level }
