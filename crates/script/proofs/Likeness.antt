-- What two sessions tell alike.
use Rattle.std.proofs.Common.{◌≡◌, ℕ, Bool, true, ◌&&◌, eqb, List, length, ℤ, Decides, sym, ap, ap₂, ◌∙◌, subst, arith}
use Rattle.std.proofs.lemmas.Bool.Decides.{Decides-eqb, Decides-and, Decides-like}
use Rattle.std.proofs.Math.Logic.{∥∥₁_elim}
use Rattle.std.proofs.Props.{props}
use Rattle.literals.specs.declared.setting.Setting.{Setting}
use Rattle.literals.specs.Settings.{stands, free_count, ◌⊆◌}
use Rattle.lists.specs.Lists.{distinct}
use Rattle.lists.proofs.Members.{sets_same}
use Rattle.shelf.specs.Meanings.{Meaning, Match, Every, Lawful}
use Rattle.runs.specs.Views.{View, literals_on, standing}
use Rattle.runs.specs.Runs.{chosen_by}
use Rattle.runs.proofs.Trails.{count_once}
use Rattle.session.specs.Logs.{Reached}
use Rattle.runs.specs.Laws.{Alike, Agree, Same, Laws, chosen_in}

set_decides : (s t : Setting) → Decides (eqb s.on t.on && eqb s.off t.off) (s ≡ t)
set_decides s t =
    Decides-like (eqb s.on t.on && eqb s.off t.off) (λ p. ap₂ (λ (x y : ℕ). record { on = x; off = y }) p.0 p.1) (λ e. (ap (λ (x : Setting). x.on) e, ap (λ (x : Setting). x.off) e))
    (Decides-and (eqb s.on t.on) (eqb s.off t.off) (Decides-eqb s.on t.on) (Decides-eqb s.off t.off))

module _ (v w : View) (once : distinct (literals_on v.trail) ≡ true) (once' : distinct (literals_on w.trail) ≡ true) where
  -- no switch stands twice, so the set tells how long the trail is
  same_alike : v.level ≡ w.level → standing v.trail ≡ standing w.trail → Alike v w
  same_alike level same =
      let count = count_once v.trail once in
      let count' = count_once w.trail once' in
      let free = ap free_count same in
      record { level = level; free = free; trail = omega (arith, count, count', free); switches = λ l. ap (λ (s : Setting). stands s l) same }

  alike_same : Alike v w → standing v.trail ≡ standing w.trail
  alike_same k = sets_same (literals_on v.trail) (literals_on w.trail) (λ l h. sym (k.switches l) ∙ h) (λ l h. k.switches l ∙ h)

  pub alike_by : (s t : Setting) (r : Bool) → v.level ≡ w.level → s ≡ standing v.trail → t ≡ standing w.trail → r ≡ (eqb s.on t.on && eqb s.off t.off) → Decides r (Alike v w)
  alike_by s t r level e f is =
      let d = set_decides s t in
      (λ h. same_alike level (sym e ∙ d.0 (sym is ∙ h) ∙ f), λ k. is ∙ d.1 (e ∙ alike_same k ∙ sym f))

-- the literals that the trail has as chosen are those that the calls chose
runs_agree : (rules others : List Meaning) (v w : View) → Laws rules → Laws others → Every others Lawful → Reached rules v → Reached others w → Match rules others
    → Same (chosen_in v.trail) (chosen_in w.trail) → Agree v w
runs_agree rules others v w sure sure' lawful r q m e =
    let p = (sure.sure r.events v r.run).chosen in
    let p' = (sure'.sure q.events w q.run).chosen in
    sure.agree others lawful m r.events q.events v w r.run q.run
    (subst (λ (ns : List ℤ). Same ns (chosen_by q.events)) p (subst (λ (ns : List ℤ). Same (chosen_in v.trail) ns) p' e))

pub reached_agree : (rules others : List Meaning) (v w : View) → Laws rules → Laws others → Every others Lawful → ∥ Reached rules v ∥₁ → ∥ Reached others w ∥₁ → Match rules others
    → Same (chosen_in v.trail) (chosen_in w.trail) → Agree v w
reached_agree rules others v w sure sure' lawful some other m e =
    ∥∥₁_elim some (hlevel props) (λ r. ∥∥₁_elim other (hlevel props) (λ q. runs_agree rules others v w sure sure' lawful r q m e))

-- ---- the same told part by part

module _ (v w : View) (a b m n : ℕ) (there back : Bool) (la : a ≡ v.level) (lb : b ≡ w.level) (lm : m ≡ length v.trail) (ln : n ≡ length w.trail) where
  abbrev Parts : Type 0
  Parts = (((a ≡ b) × (m ≡ n)) × (standing v.trail ⊆ standing w.trail)) × (standing w.trail ⊆ standing v.trail)

  all_alike : Parts → Alike v w
  all_alike p =
      let same = sets_same (literals_on v.trail) (literals_on w.trail) p.0.1 p.1 in
      record {
        level = sym la ∙ p.0.0.0 ∙ lb;
        free = ap free_count same;
        trail = sym lm ∙ p.0.0.1 ∙ ln;
        switches = λ l. ap (λ (s : Setting). stands s l) same;
      }

  parts : Alike v w → Parts
  parts k = (((la ∙ k.level ∙ sym lb, lm ∙ k.trail ∙ sym ln), λ l h. sym (k.switches l) ∙ h), λ l h. k.switches l ∙ h)

  pub alike_decides : Decides there (standing v.trail ⊆ standing w.trail) → Decides back (standing w.trail ⊆ standing v.trail) → Decides (((eqb a b && eqb m n) && there) && back) (Alike v w)
  alike_decides d e =
      Decides-like (((eqb a b && eqb m n) && there) && back) all_alike parts
      (Decides-and ((eqb a b && eqb m n) && there) back (Decides-and (eqb a b && eqb m n) there (Decides-and (eqb a b) (eqb m n) (Decides-eqb a b) (Decides-eqb m n)) d) e)

pub within_by : (b : Bool) (s t s' t' : Setting) → s ≡ s' → t ≡ t' → Decides b (s ⊆ t) → Decides b (s' ⊆ t')
within_by b s t s' t' e f d = subst (λ (x : Setting). Decides b (s' ⊆ x)) f (subst (λ (x : Setting). Decides b (x ⊆ t)) e d)
