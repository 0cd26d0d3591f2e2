-- Settled is the least stable set over the chosen literals, clashed is hopeless, and two sessions agree.
use Rattle.std.proofs.Common.{◌≡◌, ℕ, Bool, true, false, not, List, length, ℤ, sym, refl, ap, ◌∙◌, arith}
use Rattle.literals.specs.declared.literal.Literal.{Literal}
use Rattle.literals.specs.declared.setting.Setting.{Setting}
use Rattle.literals.specs.Literals.{number, opposite}
use Rattle.literals.specs.Settings.{stands, free, plus, set_of, free_count, ◌⊆◌}
use Rattle.literals.proofs.Standing.{free_parts}
use Rattle.lists.specs.Lists.{distinct}
use Rattle.lists.proofs.Members.{in_set, set_in, sets_same, same_length}
use Rattle.lists.proofs.Sets.{distinct_push, free_new}
use Rattle.std.proofs.lemmas.Bool.{and_from}
use Rattle.shelf.specs.Meanings.{Meaning, Lawful, Every, Match}
use Rattle.runs.specs.declared.step.Step.{Step}
use Rattle.runs.specs.declared.calls.State.TheVariants.{Settled, Clashed}
use Rattle.runs.specs.Views.{View, literals_on, standing}
use Rattle.runs.specs.Runs.{chosen_by}
use Rattle.runs.specs.Reasons.{Meets}
use Rattle.runs.specs.Laws.{Holds, Stable, Least, Full, Hopeless, Same, Alike, EverySure, EveryTwoAgree}
use Rattle.runs.proofs.Trails.{Trail, empty, chose, locked, numbers, least, holds_chosen, count}
use Rattle.runs.proofs.Keeping.{Kept, run_keeps, chosen_told}

-- ---- one session

module _ (rules : List Meaning) (lawful : Every rules Lawful) (c : List ℤ) (v : View) (i : Kept rules c v) where
  pub within : (t : Setting) → Stable rules c t → standing v.trail ⊆ t
  within t st = least rules lawful t i.trail (rw i.named st)

  pub settled_least : v.state ≡ Settled → Least rules c (standing v.trail)
  settled_least e =
      record {
        stable = record {
          holds = rw (sym i.named) (holds_chosen rules i.trail);
          meets = λ r m n. (i.quiet e r m n).unbroken;
          still = λ r m n l f. (i.quiet e r m n).still l f;
        };
        within = within;
      }

  -- a full setting that meets every rule is stable
  full_stable : (t : Setting) → Full t → Meets rules t → Holds c t → Stable rules c t
  full_stable t full meets holds =
      record {
        holds = holds;
        meets = meets;
        still = λ r m n l f. let p = free_parts t l f.free in cc (full l, p.0, p.1);
      }

  pub clashed_hopeless : (r : ℕ) → v.state ≡ Clashed r → Hopeless rules c (standing v.trail) r
  clashed_hopeless r e =
      let b = i.broken r e in
      record {
        broken = record { rule = b.rule; numbered = b.numbered; breaks = b.here; lowest = λ q m n p. (b.before q m n p).unbroken };
        hopeless = λ t full meets holds.
            cc ((lawful r b.rule b.numbered).grows _ t (within t (full_stable t full meets holds)) b.here, meets r b.rule b.numbered);
      }

pub every_sure : (rules : List Meaning) → Every rules Lawful → EverySure rules
every_sure rules lawful es w run =
    let i = run_keeps rules run in
    record {
      chosen = chosen_told rules i.trail ∙ i.named;
      settled = settled_least rules lawful (chosen_by es) w i;
      clashed = clashed_hopeless rules lawful (chosen_by es) w i;
    }

-- ---- how many are chosen

-- the chosen literals stand, and no switch is chosen twice
chosen_within : (rules : List Meaning) {c : List Literal} {t : List Step} → Trail rules c t → set_of c ⊆ standing t
chosen_within rules {c} tr l h = holds_chosen rules tr l (set_in c l h)

free_within : (s t : Setting) (l : Literal) → s ⊆ t → free t l ≡ true → free s l ≡ true
free_within s t l sub f =
    let p = free_parts t l f in
    and_from _ _ (ap not (less l p.0)) (ap not (less (opposite l) p.1))
  where
    less : (k : Literal) → stands t k ≡ false → stands s k ≡ false
    less k q = at (stands s k) refl
      where
        at : (b : Bool) → stands s k ≡ b → stands s k ≡ false
        at true e = absurd (cc (sub k e))
        at false e = e

pub chosen_once : (rules : List Meaning) {c : List Literal} {t : List Step} → Trail rules c t → distinct c ≡ true
chosen_once rules empty = refl
chosen_once rules (chose {c = c} {t = t} x back q f e z) =
    distinct_push c x.literal (chosen_once rules back) (free_new c x.literal (free_within (set_of c) (standing t) x.literal (chosen_within rules back) f))
chosen_once rules (locked x back r a e z) = chosen_once rules back

same_within : (c d : List Literal) → Same (numbers c) (numbers d) → set_of c ⊆ set_of d
same_within c d e l h = in_set d l (e.there (number l) (set_in c l h))

-- ---- two sessions

pub turned : {rules others : List Meaning} → Match rules others → Match others rules
turned m = record { there = m.back; back = m.there }

pub swapped : {c d : List ℤ} → Same c d → Same d c
swapped e = record { there = e.back; back = e.there }

pub same_chosen : (c d : List Literal) → distinct c ≡ true → distinct d ≡ true → Same (numbers c) (numbers d) → length c ≡ length d
same_chosen c d p q e = same_length c d p q (sets_same c d (same_within c d e) (same_within d c (swapped e)))

-- what is stable for rules is stable for rules that match
across : (rules others : List Meaning) (c d : List ℤ) (s : Setting) → Match rules others → Same c d → Stable rules c s → Stable others d s
across rules others c d s m e st =
    record {
      holds = λ l h. st.holds l (e.back (number l) h);
      meets = λ r n at. let p = m.back r n at in p.3 s ∙ st.meets p.0 p.1 p.2;
      still = λ r n at l f. let p = m.back r n at in
          st.still p.0 p.1 p.2 l (record { unbroken = sym (p.3 s) ∙ f.unbroken; free = f.free; against = sym (p.3 (plus s (opposite l))) ∙ f.against });
    }

module _ (rules others : List Meaning) (lawful : Every rules Lawful) (lawful' : Every others Lawful) (c d : List ℤ) (v w : View) (m : Match rules others) (e : Same c d)
    (i : Kept rules c v) (j : Kept others d w) where
  -- the standing literals of a settled session contain those of the other
  pub into : v.state ≡ Settled → standing w.trail ⊆ standing v.trail
  into p = within others lawful' d w j (standing v.trail) (across rules others c d (standing v.trail) m e (settled_least rules lawful c v i p).stable)

  pub never_both : v.state ≡ Settled → (r : ℕ) → w.state ≡ Clashed r → ⊥
  never_both p r q =
      let b = j.broken r q in
      let o = m.back r b.rule b.numbered in
      cc ((lawful' r b.rule b.numbered).grows _ _ (into p) b.here, o.3 (standing v.trail), (i.quiet p o.0 o.1 o.2).unbroken)

pub every_two_agree : (rules : List Meaning) → Every rules Lawful → EveryTwoAgree rules
every_two_agree rules lawful others lawful' m es fs v w run run' e =
    record {
      never = λ p r q. never_both rules others lawful lawful' c d v w m e i j p r q;
      nor = λ p r q. never_both others rules lawful' lawful d c w v (turned m) (swapped e) j i p r q;
      alike = λ p q. alike p q;
    }
  where
    c : List ℤ
    c = chosen_by es

    d : List ℤ
    d = chosen_by fs

    i : Kept rules c v
    i = run_keeps rules run

    j : Kept others d w
    j = run_keeps others run'

    same : Same (numbers i.chosen) (numbers j.chosen)
    same = rw i.named (rw j.named e)

    alike : v.state ≡ Settled → w.state ≡ Settled → Alike v w
    alike p q =
        let one : standing v.trail ≡ standing w.trail
        = sets_same (literals_on v.trail) (literals_on w.trail) (into others rules lawful' lawful d c w v (turned m) (swapped e) j i q) (into rules others lawful lawful' c d v w m e i j p) in
        let n = count rules i.trail in
        let k = count others j.trail in
        let f : free_count (standing v.trail) ≡ free_count (standing w.trail) = ap free_count one in
        record {
          level = i.level ∙ same_chosen i.chosen j.chosen (chosen_once rules i.trail) (chosen_once others j.trail) same ∙ sym j.level;
          free = f;
          trail = omega arith;
          switches = λ l. ap (λ (s : Setting). stands s l) one;
        }
