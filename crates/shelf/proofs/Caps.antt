-- Rules under the limit, the rule that fails shut, and which rule numbers there are.
use Rattle.std.proofs.Common.{◌≡◌, ℕ, ◌+◌, ◌-◌, ◌<◌, ◌≤◌, Bool, false, cond, List, [], ◌∷◌, length, get_or, None, sym, refl, ap, subst, ⊎_elim, arith}
use Rattle.std.proofs.lemmas.Bool.{lt-ltb, le-ltb, cases_lt}
use Rattle.std.proofs.lemmas.Bool.Decides.{nat_tests}
use Rattle.literals.specs.declared.setting.Setting.{Setting}
use Rattle.literals.specs.Refusals.{first_failed}
use Rattle.rules.specs.declared.Verdict.TheVariants.{Broken}
use Rattle.rules.specs.Scans.{Numbered, first, later}
use Rattle.rules.proofs.Numbers.{at_numbered, numbered_low}
use Rattle.shelf.specs.Meanings.{Meaning, Lawful, Every, OfRule, Answers, shut, capped, no_rule, letter_checks, mention_checks}

pub over : (letter : ℕ) (rs : List Meaning) → 1024 < length rs → capped letter rs ≡ shut letter ∷ []
over letter rs h = ap (λ (b : Bool). cond b (shut letter ∷ []) rs) (lt-ltb 1024 (length rs) h)

pub under : (letter : ℕ) (rs : List Meaning) → length rs ≤ 1024 → capped letter rs ≡ rs
under letter rs h = ap (λ (b : Bool). cond b (shut letter ∷ []) rs) (le-ltb 1024 (length rs) h)

-- what holds of the one rule and of all the rules holds of them under the limit
pub by_cap : (P : List Meaning → Type 0) (letter : ℕ) (rs : List Meaning) → (1024 < length rs → P (shut letter ∷ [])) → (length rs ≤ 1024 → P rs) → P (capped letter rs)
by_cap P letter rs p q =
    ⊎_elim (λ (h : 1024 < length rs). subst P (sym (over letter rs h)) (p h)) (λ (h : length rs ≤ 1024). subst P (sym (under letter rs h)) (q h))
    (cases_lt 1024 (length rs))

pub capped_few : (letter : ℕ) (rs : List Meaning) → length (capped letter rs) ≤ 1024
capped_few letter rs = by_cap (λ xs. length xs ≤ 1024) letter rs (λ _. omega arith) (λ h. h)

-- ---- the rule that fails shut

-- what holds of that rule holds of every rule of its list
pub every_shut : (letter : ℕ) (P : Meaning → Type 0) → P (shut letter) → Every (shut letter ∷ []) P
every_shut letter P p r m first = p
every_shut letter P p r m (later n) = elim n [ ]

pub shut_lawful : (letter : ℕ) → Every (shut letter ∷ []) Lawful
shut_lawful letter = every_shut letter Lawful (record { grows = λ s t h b. refl; ignores = λ s t h k b. refl })

pub capped_lawful : (letter : ℕ) (rs : List Meaning) → Every rs Lawful → Every (capped letter rs) Lawful
capped_lawful letter rs h = by_cap (λ xs. Every xs Lawful) letter rs (λ _. shut_lawful letter) (λ _. h)

pub shut_answers : (letter : ℕ) (s : Setting) → Answers (shut letter ∷ []) s (Broken 1)
shut_answers letter s = record { rule = shut letter; numbered = first; here = refl; before = λ q m n lt. let low = numbered_low n in absurd (omega arith) }

-- ---- rule numbers that pass their check

pub number_there : (rs : List Meaning) (r : ℕ) → 1 ≤ r → r ≤ length rs → no_rule rs r ≡ false
number_there rs r p q = grind (arith, nat_tests)

pub letter_there : (rs : List Meaning) (r : ℕ) → 1 ≤ r → r ≤ length rs → None ≡ first_failed (letter_checks rs r)
letter_there rs r p q = grind (arith, nat_tests)

pub mention_there : (rs : List Meaning) (r n : ℕ) → 1 ≤ n → n ≤ 64 → 1 ≤ r → r ≤ length rs → None ≡ first_failed (mention_checks rs r n)
mention_there rs r n a b p q = grind (arith, nat_tests)

pub rule_passed : (rs : List Meaning) (r : ℕ) → None ≡ first_failed (letter_checks rs r) → (1 ≤ r) × (r ≤ length rs)
rule_passed rs r e = grind (arith, nat_tests)

pub mention_passed : (rs : List Meaning) (r n : ℕ) → None ≡ first_failed (mention_checks rs r n) → (1 ≤ r) × (r ≤ length rs)
mention_passed rs r n e = grind (arith, nat_tests)

pub numbered_there : {R : Type 0} (xs : List R) (r : ℕ) (d : R) → (1 ≤ r) × (r ≤ length xs) → Numbered xs r (get_or xs (r - 1) d)
numbered_there xs r d there =
    let e : r - 1 + 1 ≡ r = omega (arith, there.0) in
    subst (λ (k : ℕ). Numbered xs k (get_or xs (r - 1) d)) e (at_numbered xs (r - 1) d (omega (arith, there.0, there.1)))

pub rule_there : (rs : List Meaning) (r : ℕ) (d : Meaning) → 1 ≤ r → r ≤ length rs → Numbered rs r (get_or rs (r - 1) d)
rule_there rs r d p q = numbered_there rs r d (p, q)

-- what holds of every rule holds of that one
pub of_every : (rs : List Meaning) (r : ℕ) (P : Meaning → Type 0) → Every rs P → (1 ≤ r) × (r ≤ length rs) → OfRule rs r P
of_every rs r P every there =
    let n = rule_there rs r (shut 0) there.0 there.1 in
    record { rule = get_or rs (r - 1) (shut 0); numbered = n; is = every r _ n }
