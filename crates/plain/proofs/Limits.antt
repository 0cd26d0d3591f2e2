-- The rules of a plain shelf, over the limit and under it.
use Rattle.std.proofs.Common.{◌≡◌, ℕ, ◌-◌, ◌<◌, ◌≤◌, Bool, false, List, [], ◌∷◌, map, length, get_or, sym, refl, ap, ◌∙◌, subst, arith}
use Rattle.std.proofs.lemmas.List.{length-map}
use Rattle.literals.specs.declared.setting.Setting.{Setting}
use Rattle.rules.specs.declared.Verdict.{Verdict}
use Rattle.rules.specs.declared.Verdict.TheVariants.{Broken}
use Rattle.rules.specs.Scans.{Scans}
use Rattle.rules.proofs.Numbers.{numbered_map}
use Rattle.shelf.specs.Meanings.{Meaning, Every, OfRule, Answers, shut}
use Rattle.shelf.proofs.Caps.{over, under, by_cap, every_shut, numbered_there, of_every, shut_answers}
use Rattle.shelf.proofs.Lists.{answers_map, every_map}
use Rattle.plain.specs.Plains.{plain_letter, meaning, plain_rules}

module _ {R : Type 0} (B : R → Setting → Bool) (M : R → ℕ → Bool) (rs : List R) where
  pub plain_over : 1024 < length rs → plain_rules B M rs ≡ shut plain_letter ∷ []
  plain_over h = over plain_letter (map (meaning B M) rs) (omega (arith, length-map rs (meaning B M)))

  pub plain_under : length rs ≤ 1024 → plain_rules B M rs ≡ map (meaning B M) rs
  plain_under h = under plain_letter (map (meaning B M) rs) (omega (arith, length-map rs (meaning B M)))

  pub count_over : 1024 < length rs → 1 ≡ length (plain_rules B M rs)
  count_over h = ap length (sym (plain_over h))

  pub count_under : length rs ≤ 1024 → length rs ≡ length (plain_rules B M rs)
  count_under h = sym (length-map rs (meaning B M)) ∙ ap length (sym (plain_under h))

  pub answers_over : (s : Setting) → 1024 < length rs → Answers (plain_rules B M rs) s (Broken 1)
  answers_over s h = subst (λ (xs : List Meaning). Answers xs s (Broken 1)) (sym (plain_over h)) (shut_answers plain_letter s)

  pub answers_under : (s : Setting) (v : Verdict) → length rs ≤ 1024 → Scans B rs s v → Answers (plain_rules B M rs) s v
  answers_under s v h k = subst (λ (xs : List Meaning). Answers xs s v) (sym (plain_under h)) (answers_map (meaning B M) rs s v k)

  pub mentions_over : (r n : ℕ) → 1024 < length rs → 1 ≤ r → r ≤ length (plain_rules B M rs) → OfRule (plain_rules B M rs) r (λ m. false ≡ m.mentions n)
  mentions_over r n h p q =
      of_every (plain_rules B M rs) r (λ m. false ≡ m.mentions n)
      (subst (λ (xs : List Meaning). Every xs (λ m. false ≡ m.mentions n)) (sym (plain_over h)) (every_shut plain_letter (λ m. false ≡ m.mentions n) refl)) (p, q)

  pub mentions_under : (r n : ℕ) (x : R) (b : Bool) → length rs ≤ 1024 → 1 ≤ r → r ≤ length rs → b ≡ M (get_or rs (r - 1) x) n → OfRule (plain_rules B M rs) r (λ m. b ≡ m.mentions n)
  mentions_under r n x b h p q e =
      subst (λ (xs : List Meaning). OfRule xs r (λ m. b ≡ m.mentions n)) (sym (plain_under h))
      (record { rule = meaning B M (get_or rs (r - 1) x); numbered = numbered_map (meaning B M) (numbered_there rs r x (p, q)); is = e })

  -- every rule carries the letter of the shelf
  all_letters : Every (plain_rules B M rs) (λ m. plain_letter ≡ m.letter)
  all_letters =
      by_cap (λ xs. Every xs (λ m. plain_letter ≡ m.letter)) plain_letter (map (meaning B M) rs) (λ _. every_shut plain_letter (λ m. plain_letter ≡ m.letter) refl)
      (λ _. every_map (meaning B M) rs (λ m. plain_letter ≡ m.letter) (λ x. refl))

  pub letters : (r : ℕ) → 1 ≤ r → r ≤ length (plain_rules B M rs) → OfRule (plain_rules B M rs) r (λ m. plain_letter ≡ m.letter)
  letters r p q = of_every (plain_rules B M rs) r (λ m. plain_letter ≡ m.letter) all_letters (p, q)
