-- What a pair knows by its split.
use Rattle.std.proofs.Common.{◌≡◌, ◌≢◌, ℕ, ◌+◌, ◌-◌, ◌<◌, ◌≤◌, List, [], ◌∷◌, ◌++◌, length, IfOk, Some, None, Result, sym, ap, ◌∙◌, subst, arith}
use Rattle.std.proofs.lemmas.List.{length-append}
use Rattle.std.proofs.lemmas.Result.{IfOk-weaker}
use Rattle.std.proofs.lemmas.Bool.Decides.{nat_tests}
use Rattle.literals.specs.declared.literal.Literal.{Literal}
use Rattle.literals.specs.declared.refusal.Refusal.{Refusal}
use Rattle.literals.specs.declared.setting.Setting.{Setting}
use Rattle.literals.specs.Settings.{set_of}
use Rattle.rules.specs.declared.Verdict.{Verdict}
use Rattle.rules.specs.declared.Verdict.TheVariants.{Quiet, Broken}
use Rattle.shelf.specs.Meanings.{Meaning, Every, Answers, OfRule, shut}
use Rattle.shelf.proofs.Caps.{over, under, every_shut, of_every, shut_answers}
use Rattle.shelf.proofs.Lists.{after, answers_first, answers_second, of_left, of_right}
use Rattle.pair.specs.Pairs.{pair_letter, pair_rules, split_of}

-- ---- the rules

pub split_same : (xs ys xs' ys' : List Meaning) → xs' ≡ xs → ys' ≡ ys → split_of xs ys ≡ split_of xs' ys'
split_same xs ys xs' ys' p q = ap (λ (rs : List Meaning). split_of rs ys) (sym p) ∙ ap (split_of xs') (sym q)

-- a pair that knows where the second shelf's rules begin has all the rules of both
module _ (xs ys : List Meaning) (split : ℕ) (e : Some split ≡ split_of xs ys) where
  pub all_few : length (xs ++ ys) ≤ 1024
  all_few = grind (arith, nat_tests)

  pub all_split : split ≡ length xs
  all_split = grind (arith, nat_tests)

  pub all_rules : pair_rules xs ys ≡ xs ++ ys
  all_rules = under pair_letter (xs ++ ys) all_few

  pub sum_few : (r : ℕ) → r ≤ length ys → split + r ≤ 1024
  sum_few r h = omega (arith, length-append xs ys, all_few, all_split)

  -- ---- what is told of a rule of the first, or of the second

  module _ {X : Type 0} (a : Result X Refusal) (P : X → Meaning → Type 0) (r : ℕ) where
    pub is_first : IfOk a (λ x. OfRule xs r (P x)) → IfOk a (λ x. OfRule (pair_rules xs ys) r (P x))
    is_first h = IfOk-weaker a _ _ (λ x o. subst (λ (rs : List Meaning). OfRule rs r (P x)) (sym all_rules) (of_left xs ys (P x) r o)) h

    pub is_second : split < r → IfOk a (λ x. OfRule ys (r - split) (P x)) → IfOk a (λ x. OfRule (pair_rules xs ys) r (P x))
    is_second q h =
        let z : length xs + (r - split) ≡ r = omega (arith, all_split) in
        IfOk-weaker a _ _
        (λ x o. subst (λ (rs : List Meaning). OfRule rs r (P x)) (sym all_rules)
        (subst (λ (k : ℕ). OfRule (xs ++ ys) k (P x)) z (of_right xs ys (P x) (r - split) o)))
        h

  -- ---- what the first answers, or, where it is quiet, the second

  pub first_answers : (s : Setting) (v : Verdict) → v ≢ Quiet → Answers xs s v → Answers (pair_rules xs ys) s v
  first_answers s v loud h = subst (λ (rs : List Meaning). Answers rs s v) (sym all_rules) (answers_first xs ys s v loud h)

  pub second_answers : (ts us : List Literal) (v : Verdict) → ts ≡ us → Answers xs (set_of ts) Quiet → Answers ys (set_of us) v → Answers (pair_rules xs ys) (set_of ts) (after split v)
  second_answers ts us v same p q =
      subst (λ (rs : List Meaning). Answers rs (set_of ts) (after split v)) (sym all_rules)
      (subst (λ (n : ℕ). Answers (xs ++ ys) (set_of ts) (after n v)) (sym all_split)
      (answers_second xs ys (set_of ts) v p (subst (λ (ls : List Literal). Answers ys (set_of ls) v) (sym same) q)))

-- a pair that does not know it failed shut
module _ (xs ys : List Meaning) (e : None ≡ split_of xs ys) where
  pub none_rules : pair_rules xs ys ≡ shut pair_letter ∷ []
  none_rules = over pair_letter (xs ++ ys) (grind (arith, nat_tests))

  pub none_answer : (s : Setting) → Answers (pair_rules xs ys) s (Broken 1)
  none_answer s = subst (λ (rs : List Meaning). Answers rs s (Broken 1)) (sym none_rules) (shut_answers pair_letter s)

  pub none_of : (r : ℕ) (P : Meaning → Type 0) → P (shut pair_letter) → (1 ≤ r) × (r ≤ length (pair_rules xs ys)) → OfRule (pair_rules xs ys) r P
  none_of r P p there = of_every (pair_rules xs ys) r P (subst (λ (rs : List Meaning). Every rs P) (sym none_rules) (every_shut pair_letter P p)) there
