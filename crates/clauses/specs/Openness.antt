-- What is false of a list of literals, and the one that may be open.
use Rattle.std.specs.Prelude.{◌≡◌, ℕ, ◌+◌, ◌<◌, Bool, true, false, not, ◌&&◌, ◌||◌, List, [], ◌∷◌, ◌++◌, length, take, drop, is_some, Some, None, Option, MatchOption, slice_index_or, refl}
use Rattle.std.proofs.Common.{sym, ap, ap₂, ◌∙◌, subst, ⊎_elim, arith}
use Rattle.std.proofs.lemmas.List.{take_more, drop_more, take-append-drop}
use Rattle.std.proofs.lemmas.Bool.{eq-eqb, or_left, or_right, or_cases, and_parts, and_from, and_left, and_right, both_ways, cases_Bool}
use Rattle.literals.specs.declared.literal.Literal.{Literal}
use Rattle.literals.specs.declared.setting.Setting.{Setting}
use Rattle.literals.specs.Literals.{opposite, same}
use Rattle.literals.specs.Settings.{stands, free, plus}
use Rattle.literals.proofs.Known.{same_is, same_opposites}
use Rattle.literals.proofs.Standing.{stands-plus, free_parts}
use Rattle.lists.specs.Lists.{mentioned}
use Rattle.rules.specs.Rules.{Grows, Ignores}
use Rattle.clauses.specs.declared.clause.Clause.{Clause}
use Rattle.clauses.specs.Clauses.{all_false, has, others_false, alone, literals_in, clause_broken, clause_mentions}
use Rattle.clauses.specs.Openings.{FirstOpen}

-- ---- the two laws

keeps_false : (s t : Setting) (ls : List Literal) → ((l : Literal) → mentioned ls l.switch ≡ true → stands s l ≡ true → stands t l ≡ true)
    → all_false s ls ≡ true → all_false t ls ≡ true
keeps_false s t [] h b = refl
keeps_false s t (l ∷ ls) h b =
    let both = and_parts (stands s (opposite l)) (all_false s ls) b in
    and_from _ _ (h (opposite l) (or_left _ _ (eq-eqb l.switch l.switch refl)) both.0) (keeps_false s t ls (λ k m. h k (or_right _ _ m)) both.1)

pub clause_grows : (c : Clause) → Grows (clause_broken c)
clause_grows c s t inside b = keeps_false s t (literals_in c) (λ l m h. inside l h) b

pub clause_ignores : (c : Clause) → Ignores (clause_mentions c) (clause_broken c)
clause_ignores c s t inside h b = keeps_false s t (literals_in c) h b

-- ---- a list with one literal more

pub false_append : (s : Setting) (ks ls : List Literal) → all_false s (ks ++ ls) ≡ (all_false s ks && all_false s ls)
false_append s [] ls = refl
false_append s (k ∷ ks) ls = ap (λ (b : Bool). stands s (opposite k) && b) (false_append s ks ls) ∙ assoc (stands s (opposite k)) _ _
  where
    assoc : (a b c : Bool) → (a && (b && c)) ≡ ((a && b) && c)
    assoc a b c = grind arith

module _ (s : Setting) (ls : List Literal) (i : ℕ) (l : Literal) (lt : i < length ls) (is : l ≡ slice_index_or ls i l) where
  pub false_more : stands s (opposite l) ≡ true → all_false s (take i ls) ≡ true → all_false s (take (i + 1) ls) ≡ true
  false_more off h =
      ap (all_false s) (take_more ls i l lt ∙ ap (λ (y : Literal). take i ls ++ (y ∷ [])) (sym is))
      ∙ false_append s (take i ls) (l ∷ []) ∙ and_from _ _ h (and_from _ _ off refl)

  pub first_open : stands s (opposite l) ≡ false → all_false s (take i ls) ≡ true → FirstOpen s ls l
  first_open on h =
      record {
        before = take i ls;
        after = drop (i + 1) ls;
        split = sym (take-append-drop i ls) ∙ ap (λ (ys : List Literal). take i ls ++ ys) (drop_more ls i l lt ∙ ap (λ (y : Literal). y ∷ drop (i + 1) ls) (sym is));
        false_before = h;
        open_here = on;
      }

pub open_unbroken : (s : Setting) (ls : List Literal) (l : Literal) → FirstOpen s ls l → all_false s ls ≡ false
open_unbroken s ls l o =
    ap (all_false s) o.split ∙ false_append s o.before (l ∷ o.after) ∙ and_right (all_false s o.before) _ (and_left _ _ o.open_here)

-- the clause is broken where no literal is open
pub none_open : (s : Setting) (ls : List Literal) (o : Option Literal) → MatchOption o (all_false s ls ≡ true) (λ l. FirstOpen s ls l) → not (is_some o) ≡ all_false s ls
none_open s ls None h = sym h
none_open s ls (Some l) h = sym (open_unbroken s ls l h)

-- ---- the opposite of a literal added

pub false_plus : (s : Setting) (l : Literal) (ls : List Literal) → all_false (plus s (opposite l)) ls ≡ others_false s ls l
false_plus s l [] = refl
false_plus s l (k ∷ ks) =
    ap₂ (λ (a b : Bool). a && b) (stands-plus s (opposite l) (opposite k) ∙ ap (λ (b : Bool). b || stands s (opposite k)) (same_opposites k l)) (false_plus s l ks)

-- a list that is broken but for l has l
only_one : (s : Setting) (l : Literal) (ls : List Literal) → others_false s ls l ≡ true → all_false s ls ≡ false → has ls l ≡ true
only_one s l [] h b = absurd (both_ways true b refl)
only_one s l (k ∷ ks) h b = at (same k l) (stands s (opposite k)) (all_false s ks) h b (only_one s l ks)
  where
    at : (a f r : Bool) → ((a || f) && others_false s ks l) ≡ true → (f && r) ≡ false → (others_false s ks l ≡ true → r ≡ false → has ks l ≡ true) → (a || has ks l) ≡ true
    at true f r h b later = refl
    at false true r h b later = later h b
    at false false r h b later = absurd (both_ways false refl h)

has_open : (s : Setting) (l : Literal) (ls : List Literal) → has ls l ≡ true → stands s (opposite l) ≡ false → all_false s ls ≡ false
has_open s l [] h o = absurd (both_ways false refl h)
has_open s l (k ∷ ks) h o =
    ⊎_elim (λ (e : same k l ≡ true). and_left _ _ (subst (λ (m : Literal). stands s (opposite m) ≡ false) (sym (same_is k l e)) o))
    (λ (e : has ks l ≡ true). and_right (stands s (opposite k)) _ (has_open s l ks e o))
    (or_cases (same k l) (has ks l) h)

-- ---- which literal is alone

module _ (s : Setting) (ls : List Literal) where
  pub alone_broken : (l : Literal) → all_false s ls ≡ true → alone ls s l ≡ false
  alone_broken l b =
      ⊎_elim
      (λ (on : alone ls s l ≡ true).
      let parts = and_parts (free s l) _ on in
      let both = and_parts (has ls l) _ parts.1 in
      absurd (both_ways _ (has_open s l ls both.0 (free_parts s l parts.0).1) b))
      (λ off. off) (cases_Bool (alone ls s l))

  pub alone_free : (l : Literal) → all_false s ls ≡ false → free s l ≡ true → all_false (plus s (opposite l)) ls ≡ alone ls s l
  alone_free l b f = false_plus s l ls ∙ at (has ls l) (others_false s ls l) (λ h. only_one s l ls h b) ∙ ap (λ (x : Bool). x && (has ls l && others_false s ls l)) (sym f)
    where
      at : (h o : Bool) → (o ≡ true → h ≡ true) → o ≡ (h && o)
      at true o k = refl
      at false true k = sym (k refl)
      at false false k = refl

  -- where l is open, no other literal is alone
  pub alone_open : (l k : Literal) → FirstOpen s ls l → alone ls s k ≡ true → l ≡ k
  alone_open l k o h =
      let parts = and_parts (free s k) _ h in
      let others = (and_parts (has ls k) _ parts.1).1 in
      same_is l k (at (same l k) (stands s (opposite l)) (here o.before (subst (λ (xs : List Literal). others_false s xs k ≡ true) o.split others)) o.open_here)
    where
      here : (xs : List Literal) → others_false s (xs ++ (l ∷ o.after)) k ≡ true → (same l k || stands s (opposite l)) ≡ true
      here [] h = (and_parts _ _ h).0
      here (x ∷ xs) h = here xs (and_parts _ _ h).1

      at : (a f : Bool) → (a || f) ≡ true → f ≡ false → a ≡ true
      at true f h e = refl
      at false f h e = absurd (both_ways f e h)
