-- For a clause, to force a literal is to have it alone; so the first open literal is the only one that can be forced.
use Rattle.std.proofs.Common.{◌≡◌, ℕ, ◌<◌, Bool, true, false, cond, not, List, [], ◌∷◌, find, Some, None, Option, MatchOption, Decides, refl, subst, sym, ap, ◌∙◌, ⊎_elim, arith}
use Rattle.std.specs.Bool.{then_some}
use Rattle.std.proofs.lemmas.Bool.{and_parts, and_from, both_ways, cases_Bool}
use Rattle.literals.specs.declared.literal.Literal.{Literal}
use Rattle.literals.specs.declared.setting.Setting.{Setting}
use Rattle.literals.specs.Literals.{opposite}
use Rattle.literals.specs.Settings.{stands, free}
use Rattle.rules.specs.Rules.{Forces, Before, First, FirstForced}
use Rattle.clauses.specs.Clauses.{all_false, alone}
use Rattle.clauses.specs.Openings.{FirstOpen}
use Rattle.clauses.specs.Openness.{alone_broken, alone_free, alone_open}

module _ (s : Setting) (ls : List Literal) where
  pub alone_forces : (l : Literal) → alone ls s l ≡ true → Forces (λ t. all_false t ls) s l
  alone_forces l h =
      let f = (and_parts (free s l) _ h).0 in
      let whole : all_false s ls ≡ false = ⊎_elim (λ on. absurd (both_ways _ (alone_broken s ls l on) h)) (λ off. off) (cases_Bool (all_false s ls)) in
      record { unbroken = whole; free = f; against = alone_free s ls l whole f ∙ h }

  pub forces_alone : (l : Literal) → Forces (λ t. all_false t ls) s l → alone ls s l ≡ true
  forces_alone l f = sym (alone_free s ls l f.unbroken f.free) ∙ f.against

  pub decides_alone : (l : Literal) → Decides (alone ls s l) (Forces (λ t. all_false t ls) s l)
  decides_alone l = (alone_forces l, forces_alone l)

  -- where l is open, it is the only literal that can be forced
  pub forced_open : (l k : Literal) → FirstOpen s ls l → Forces (λ t. all_false t ls) s k → l ≡ k
  forced_open l k o f = alone_open s ls l k o (forces_alone k f)

  pub open_first : (l : Literal) → FirstOpen s ls l → Forces (λ t. all_false t ls) s l → First (λ t. all_false t ls) s l
  open_first l o f = record { forced = f; lowest = λ k b g. never k (forced_open l k o g) b }
    where
      never : (k : Literal) → l ≡ k → Before k l → ⊥
      never k e b = ⊎_elim (λ (lt : k.switch < l.switch). less (ap (λ (m : Literal). m.switch) e) lt) (λ q. both_ways l.on q.2 (ap (λ (m : Literal). m.on) e ∙ q.1)) b
        where
          less : {a c : ℕ} → a ≡ c → c < a → ⊥
          less p q = omega arith

-- the first literal that the code finds open is the first open one
pub found_open : (s : Setting) (ls : List Literal) → MatchOption (find (λ (l : Literal). not (stands s (opposite l))) ls) (all_false s ls ≡ true) (FirstOpen s ls)
found_open s [] = refl
found_open s (l ∷ ls) = ⊎_elim (λ off. at true off (later off (find is_open ls) (found_open s ls))) (λ on. at false on (here on)) (cases_Bool (stands s (opposite l)))
  where
    is_open : Literal → Bool
    is_open k = not (stands s (opposite k))

    Is : Option Literal → Type 0
    Is o = MatchOption o (all_false s (l ∷ ls) ≡ true) (FirstOpen s (l ∷ ls))

    at : (b : Bool) → stands s (opposite l) ≡ b → Is (cond (not b) (Some l) (find is_open ls)) → Is (find is_open (l ∷ ls))
    at b e h = subst (λ (x : Bool). Is (cond (not x) (Some l) (find is_open ls))) (sym e) h

    here : stands s (opposite l) ≡ false → FirstOpen s (l ∷ ls) l
    here on = record { before = []; after = ls; split = refl; false_before = refl; open_here = on }

    later : stands s (opposite l) ≡ true → (o : Option Literal) → MatchOption o (all_false s ls ≡ true) (FirstOpen s ls) → Is o
    later off None h = and_from _ _ off h
    later off (Some k) h =
        record { before = l ∷ h.before; after = h.after; split = ap (λ (ks : List Literal). l ∷ ks) h.split; false_before = and_from _ _ off h.false_before; open_here = h.open_here }

-- it is forced where the code's test says so
pub forced_first : (s : Setting) (ls : List Literal) (Tells : Literal → Bool → Type 0) → ((l : Literal) (b : Bool) → Tells l b → Decides b (Forces (λ t. all_false t ls) s l))
    → (o r : Option Literal) → MatchOption o (all_false s ls ≡ true) (FirstOpen s ls) → MatchOption o (r ≡ None) (λ l. (b : Bool) × Tells l b × (r ≡ then_some b l))
    → FirstForced (λ t. all_false t ls) s r
forced_first s ls Tells tells None r h f = subst (FirstForced (λ t. all_false t ls) s) (sym f) (λ k g. both_ways _ g.unbroken h)
forced_first s ls Tells tells (Some l) r h f = subst (FirstForced (λ t. all_false t ls) s) (sym f.2) (at f.0 (tells l f.0 f.1))
  where
    at : (b : Bool) → Decides b (Forces (λ t. all_false t ls) s l) → FirstForced (λ t. all_false t ls) s (then_some b l)
    at true d = open_first s ls l h (d.0 refl)
    at false d = λ k g. both_ways false refl (d.1 (subst (λ (m : Literal). Forces (λ t. all_false t ls) s m) (sym (forced_open s ls l k h g)) g))
