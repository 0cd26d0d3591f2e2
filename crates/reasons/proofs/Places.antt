-- The place of a switch on a trail.
use Rattle.std.proofs.Common.{◌≡◌, ℕ, ◌+◌, ◌<◌, ◌≤◌, Bool, true, false, cond, not, ◌||◌, eqb, List, [], ◌∷◌, ◌++◌, length, get_or, take, position, Some, None, sym, refl, ap, ◌∙◌, arith}
use Rattle.std.specs.List.{position_or_len}
use Rattle.std.proofs.lemmas.List.Quantifiers.{position-Some}
use Rattle.std.proofs.lemmas.List.{take_more, take_all}
use Rattle.std.proofs.lemmas.Bool.{eqb-true, ne_eqb}
use Rattle.std.proofs.lemmas.Grind.{common_steps}
use Rattle.literals.specs.declared.literal.Literal.{Literal}
use Rattle.lists.specs.Lists.{mentioned}
use Rattle.lists.proofs.Distinct.{mentioned-append}
use Rattle.rules.specs.Scans.{Numbered}
use Rattle.rules.proofs.Numbers.{at_numbered}
use Rattle.runs.specs.declared.step.Step.{Step}
use Rattle.runs.specs.Views.{literals_on}
use Rattle.runs.proofs.Trails.{literals-push}

abbrev pub of_switch : ℕ → Step → Bool
of_switch n x = eqb x.literal.switch n

-- the place found, counted from 0, is one of the trail, and has the switch
pub record Found (t : List Step) (i n : ℕ) (x : Step) : Type 0 where
  pub at : Numbered t (i + 1) x
  pub switch : x.literal.switch ≡ n

pub found : (t : List Step) (i n : ℕ) (x : Step) → position (of_switch n) t ≡ Some i → x ≡ get_or t i x → Found t i n x
found t i n x e is =
    let p = position-Some (of_switch n) t i x e in
    record {
      at = rw is (at_numbered t i x p.0);
      switch = eqb-true x.literal.switch n (rw is p.1);
    }

unseen : (t : List Step) (n : ℕ) → length t ≤ position_or_len (of_switch n) t → mentioned (literals_on t) n ≡ false
unseen [] n h = refl
unseen (x ∷ t) n h = go (of_switch n x) (unseen t n) h
  where
    go : (b : Bool) → (length t ≤ position_or_len (of_switch n) t → mentioned (literals_on t) n ≡ false)
        → length (x ∷ t) ≤ cond (not b) (1 + position_or_len (of_switch n) t) 0 → (b || mentioned (literals_on t) n) ≡ false
    go true ih le = absurd (omega arith)
    go false ih le = ih (omega arith)

pub absent : (t : List Step) (n : ℕ) → position (of_switch n) t ≡ None → mentioned (literals_on t) n ≡ false
absent t n e = unseen t n (grind (arith, common_steps))

-- ---- the same, place by place

module _ (t : List Step) (i : ℕ) (x : Step) (lt : i < length t) (is : x ≡ get_or t i x) where
  pub unseen_more : (n : ℕ) → (x.literal.switch ≡ n → ⊥) → mentioned (literals_on (take i t)) n ≡ false → mentioned (literals_on (take (i + 1) t)) n ≡ false
  unseen_more n ne h =
      let e : take (i + 1) t ≡ take i t ++ x ∷ [] = take_more t i x lt ∙ ap (λ (y : Step). take i t ++ y ∷ []) (sym is) in
      ap (λ (u : List Step). mentioned (literals_on u) n) e
      ∙ ap (λ (ls : List Literal). mentioned ls n) (literals-push (take i t) x)
      ∙ mentioned-append (literals_on (take i t)) (x.literal ∷ []) n
      ∙ neither (mentioned (literals_on (take i t)) n) (eqb x.literal.switch n) h (ne_eqb x.literal.switch n ne)
    where
      neither : (a b : Bool) → a ≡ false → b ≡ false → (a || (b || false)) ≡ false
      neither a b p q = grind arith

pub unseen_all : (t : List Step) (i n : ℕ) → length t ≤ i → mentioned (literals_on (take i t)) n ≡ false → mentioned (literals_on t) n ≡ false
unseen_all t i n le h = sym (ap (λ (u : List Step). mentioned (literals_on u) n) (take_all i t le)) ∙ h
