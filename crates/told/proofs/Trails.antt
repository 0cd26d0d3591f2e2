-- What a trail leans on: its set and its switches, where one more joins it and where the latest are taken back.
use Rattle.std.proofs.Common.{◌≡◌, ◌<◌, ◌↔◌, Bool, true, cond, List, [], ◌∷◌, ◌++◌, length, map, Result, Some, None, Ok, Err, IsOk, OnOk, MatchResult, ap, ap₂, ◌∙◌, subst, arith}
use Rattle.std.proofs.lemmas.List.{length-map, map-append}
use Rattle.bounded.specs.declared.full.Full.{Full}
use Rattle.bounded.proofs.Lengths.{pushed_on}
use Rattle.literals.specs.declared.literal.Literal.{Literal}
use Rattle.literals.specs.declared.refusal.Refusal.{Refusal}
use Rattle.literals.specs.declared.refusal.Refusal.TheVariants.{Stands, OppositeStands}
use Rattle.literals.specs.declared.setting.Setting.{Setting}
use Rattle.literals.specs.Refusals.{first_failed, refusal_of}
use Rattle.literals.specs.Settings.{free, plus, minus, set_of, taken_checks}
use Rattle.literals.proofs.Standing.{free_parts}
use Rattle.lists.specs.Lists.{distinct}
use Rattle.lists.proofs.Sets.{room}
use Rattle.told.proofs.Telling.{untaken, told_set, told_once, taken_out}

-- ---- one that says l, pushed where no check of l fails

module _ {T : Type 0} (lit : T → Literal) (xs ys : List T) (x : T) (l : Literal) (s : Setting) (is : l ≡ lit x) (same : s ≡ set_of (map lit xs))
    (once : distinct (map lit xs) ≡ true) (r : Result (Unit {0}) Full) (few : IsOk r ↔ (length xs < 64)) (pushed : OnOk r (ys ≡ xs ++ x ∷ []))
    (passes : None ≡ first_failed (taken_checks s l)) where
  free_there : free s (lit x) ≡ true
  free_there = subst (λ (k : Literal). free s k ≡ true) is (untaken s l passes)

  said : length (map lit xs) < 64 → map lit ys ≡ map lit xs ++ lit x ∷ []
  said lt = ap (map lit) (pushed_on r xs ys x few pushed (omega (arith, lt, length-map xs lit))) ∙ map-append lit xs (x ∷ [])

  pub joined : ys ≡ xs ++ x ∷ []
  joined =
      let lt = room (map lit xs) (lit x) once (subst (λ (t : Setting). free t (lit x) ≡ true) same free_there) in
      pushed_on r xs ys x few pushed (omega (arith, lt, length-map xs lit))

  module _ (s' : Setting) (grown : s' ≡ plus s l) where
    pub joined_set : s' ≡ set_of (map lit ys)
    joined_set = told_set (map lit xs) (map lit ys) (lit x) s s' same once free_there said (grown ∙ ap (plus s) is)

    pub joined_once : distinct (map lit ys) ≡ true
    joined_once = told_once (map lit xs) (map lit ys) (lit x) s s' same once free_there said (grown ∙ ap (plus s) is)

-- one whose literal is free is not refused
pub pushed_free : (P Q : Type 0) (s : Setting) (l : Literal) (r : Result (Unit {0}) Refusal) → free s l ≡ true → refusal_of r ≡ first_failed (taken_checks s l)
    → MatchResult r (λ _. P) (λ _. Q) → P
pushed_free P Q s l (Ok u) f e q = q
pushed_free P Q s l (Err x) f e q =
    let p = free_parts s l f in
    let none : first_failed (taken_checks s l) ≡ None = ap₂ (λ (a b : Bool). cond a (Some Stands) (cond b (Some OppositeStands) None)) p.0 p.1 in
    absurd cc

-- ---- taken back, the latest first

pub taken_back : {T : Type 0} (lit : T → Literal) (left left' : List T) (x : T) (l : Literal) (s s' : Setting) → left ≡ left' ++ x ∷ [] → l ≡ lit x
    → distinct (map lit left) ≡ true → s ≡ set_of (map lit left) → s' ≡ minus s l → (distinct (map lit left') ≡ true) × (s' ≡ set_of (map lit left'))
taken_back lit left left' x l s s' m is d e f =
    taken_out (map lit left) (map lit left') (lit x) s s' (ap (map lit) m ∙ map-append lit left' (x ∷ [])) d e (f ∙ ap (minus s) is)
