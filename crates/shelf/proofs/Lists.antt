-- What a shelf answers whose rules are those of records, or of one list after another.
use Rattle.std.proofs.Common.{◌≡◌, ◌≢◌, ℕ, ◌+◌, ◌<◌, ◌≤◌, true, List, ◌++◌, map, length, refl, subst, ⊎_elim, arith}
use Rattle.literals.specs.declared.literal.Literal.{Literal}
use Rattle.literals.specs.declared.setting.Setting.{Setting}
use Rattle.rules.specs.declared.Verdict.{Verdict}
use Rattle.rules.specs.declared.Verdict.TheVariants.{Quiet, Broken, Forced}
use Rattle.rules.specs.Rules.{First, Silent}
use Rattle.rules.specs.Scans.{Lowest, Scans}
use Rattle.rules.proofs.Numbers.{numbered_map, map_numbered, numbered_left, numbered_right, append_numbered, numbered_low, numbered_high}
use Rattle.shelf.specs.Meanings.{Meaning, Every, OfRule, Answers}

-- ---- the rules of records

module _ {R : Type 0} (f : R → Meaning) (xs : List R) (s : Setting) where
  lowest_map : (P : Meaning → Type 0) (r : ℕ) → Lowest (λ x. (f x).breaks) xs s r (λ x. P (f x)) → Lowest (λ m. m.breaks) (map f xs) s r P
  lowest_map P r h =
      record {
        rule = f h.rule;
        numbered = numbered_map f h.numbered;
        here = h.here;
        before = λ q m n lt. let back = map_numbered f xs n in subst (λ (k : Meaning). Silent k.breaks s) back.2 (h.before q back.0 back.1 lt);
      }

  -- a scan of records is a scan of what they mean
  pub answers_map : (v : Verdict) → Scans (λ x. (f x).breaks) xs s v → Answers (map f xs) s v
  answers_map Quiet h = λ q m n. let back = map_numbered f xs n in subst (λ (k : Meaning). Silent k.breaks s) back.2 (h q back.0 back.1)
  answers_map (Broken r) h = lowest_map (λ m. m.breaks s ≡ true) r h
  answers_map (Forced r l) h = lowest_map (λ m. First m.breaks s l) r h

pub every_map : {R : Type 0} (f : R → Meaning) (xs : List R) (P : Meaning → Type 0) → ((x : R) → P (f x)) → Every (map f xs) P
every_map f xs P h r m n = let back = map_numbered f xs n in subst P back.2 (h back.0)

-- ---- one list of rules after another

-- the same answer, with n rules before
abbrev pub after : ℕ → Verdict → Verdict
after n Quiet = Quiet
after n (Broken r) = Broken (n + r)
after n (Forced r l) = Forced (n + r) l

module _ (xs ys : List Meaning) where
  pub every_both : (P : Meaning → Type 0) → Every xs P → Every ys P → Every (xs ++ ys) P
  every_both P p q r m n = ⊎_elim (λ a. p r m a) (λ b. q b.0 m b.2) (append_numbered xs ys n)

  pub of_left : (P : Meaning → Type 0) (r : ℕ) → OfRule xs r P → OfRule (xs ++ ys) r P
  of_left P r h = record { rule = h.rule; numbered = numbered_left ys h.numbered; is = h.is }

  pub of_right : (P : Meaning → Type 0) (r : ℕ) → OfRule ys r P → OfRule (xs ++ ys) (length xs + r) P
  of_right P r h = record { rule = h.rule; numbered = numbered_right xs h.numbered; is = h.is }

  lowest_left : (s : Setting) (P : Meaning → Type 0) (r : ℕ) → Lowest (λ m. m.breaks) xs s r P → Lowest (λ m. m.breaks) (xs ++ ys) s r P
  lowest_left s P r h =
      record {
        rule = h.rule;
        numbered = numbered_left ys h.numbered;
        here = h.here;
        before = λ q m n lt. ⊎_elim (λ a. h.before q m a lt) (λ b. absurd (past (numbered_high h.numbered) lt b.1 (numbered_low b.2))) (append_numbered xs ys n);
      }
    where
      past : {a q k p : ℕ} → a ≤ k → q < a → q ≡ k + p → 1 ≤ p → ⊥
      past u v w z = omega arith

  lowest_right : (s : Setting) (P : Meaning → Type 0) (r : ℕ) → Every xs (λ m. Silent m.breaks s) → Lowest (λ m. m.breaks) ys s r P → Lowest (λ m. m.breaks) (xs ++ ys) s (length xs + r) P
  lowest_right s P r quiet h =
      record {
        rule = h.rule;
        numbered = numbered_right xs h.numbered;
        here = h.here;
        before = λ q m n lt. ⊎_elim (λ a. quiet q m a) (λ b. h.before b.0 m b.2 (omega (arith, b.1))) (append_numbered xs ys n);
      }

  -- what the first rules answer, unless they are quiet
  pub answers_first_broken : (s : Setting) (r : ℕ) → Answers xs s (Broken r) → Answers (xs ++ ys) s (Broken r)
  answers_first_broken s r h = lowest_left s (λ m. m.breaks s ≡ true) r h

  pub answers_first_forced : (s : Setting) (r : ℕ) (l : Literal) → Answers xs s (Forced r l) → Answers (xs ++ ys) s (Forced r l)
  answers_first_forced s r l h = lowest_left s (λ m. First m.breaks s l) r h

  pub answers_first : (s : Setting) (v : Verdict) → v ≢ Quiet → Answers xs s v → Answers (xs ++ ys) s v
  answers_first s Quiet loud h = absurd (loud refl)
  answers_first s (Broken r) loud h = answers_first_broken s r h
  answers_first s (Forced r l) loud h = answers_first_forced s r l h

  -- else what the second answer, with their numbers continued
  pub answers_second : (s : Setting) (v : Verdict) → Answers xs s Quiet → Answers ys s v → Answers (xs ++ ys) s (after (length xs) v)
  answers_second s Quiet quiet h = every_both (λ m. Silent m.breaks s) quiet h
  answers_second s (Broken r) quiet h = lowest_right s (λ m. m.breaks s ≡ true) r quiet h
  answers_second s (Forced r l) quiet h = lowest_right s (λ m. First m.breaks s l) r quiet h

-- the rule of an answer is there
pub answer_high : (xs : List Meaning) (s : Setting) (r : ℕ) (P : Meaning → Type 0) → Lowest (λ m. m.breaks) xs s r P → r ≤ length xs
answer_high xs s r P h = numbered_high h.numbered
