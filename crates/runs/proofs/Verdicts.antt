-- A list of rules tells exactly one thing of a set.
use Rattle.std.proofs.Common.{◌≡◌, ℕ, zero, suc, ◌+◌, ◌<◌, ◌≤◌, Bool, true, false, ◌⊎◌, List, [], ◌∷◌, sym, refl, ap, ◌∙◌, subst, ap₂, inl, inr, ⊎_elim, arith}
use Rattle.std.proofs.lemmas.Bool.{cases_lt}
use Rattle.literals.specs.declared.literal.Literal.{Literal}
use Rattle.literals.specs.declared.setting.Setting.{Setting}
use Rattle.literals.specs.Literals.{opposite}
use Rattle.literals.specs.Settings.{free, plus}
use Rattle.literals.proofs.Known.{literal_same}
use Rattle.rules.specs.declared.Verdict.{Verdict}
use Rattle.rules.specs.declared.Verdict.TheVariants.{Quiet, Broken, Forced}
use Rattle.rules.specs.Rules.{Forces, Before, First, Silent}
use Rattle.rules.specs.Scans.{Numbered, first, later, Lowest}
use Rattle.rules.proofs.Numbers.{numbered_one, numbered_low}
use Rattle.shelf.specs.Meanings.{Meaning, Answers}
use Rattle.shelf.proofs.Lists.{after, answers_second}

-- ---- a test is not both

pub true_false : {A : Type 0} {b : Bool} → b ≡ true → b ≡ false → A
true_false p q = absurd cc

-- ---- at most one

-- of two literals one comes before the other, or they are one
ordered : (k l : Literal) → (k ≡ l) ⊎ (Before k l ⊎ Before l k)
ordered k l =
    ⊎_elim (λ (p : k.switch < l.switch). inr (inl (inl p)))
    (λ (p : l.switch ≤ k.switch).
    ⊎_elim (λ (q : l.switch < k.switch). inr (inr (inl q))) (λ (q : k.switch ≤ l.switch). let e : k.switch ≡ l.switch = omega arith in sides e k.on l.on refl refl)
    (cases_lt l.switch k.switch))
    (cases_lt k.switch l.switch)
  where
    sides : k.switch ≡ l.switch → (a b : Bool) → k.on ≡ a → l.on ≡ b → (k ≡ l) ⊎ (Before k l ⊎ Before l k)
    sides e true true p q = inl (literal_same k l e (p ∙ sym q))
    sides e true false p q = inr (inl (inr (e, p, q)))
    sides e false true p q = inr (inr (inr (sym e, q, p)))
    sides e false false p q = inl (literal_same k l e (p ∙ sym q))

first_one : (B : Setting → Bool) (s : Setting) (k l : Literal) → First B s k → First B s l → k ≡ l
first_one B s k l p q =
    ⊎_elim (λ e. e) (λ (o : Before k l ⊎ Before l k). ⊎_elim (λ (b : Before k l). absurd (q.lowest k b p.forced)) (λ (b : Before l k). absurd (p.lowest l b q.forced)) o)
    (ordered k l)

module _ (rules : List Meaning) (s : Setting) where
  abbrev Loud : (Meaning → Type 0) → Type 0
  Loud P = (m : Meaning) → P m → Silent m.breaks s → ⊥

  -- the lowest rule that is not silent is one
  lowest_one : (P Q : Meaning → Type 0) (q r : ℕ) → Loud P → Loud Q → Lowest (λ m. m.breaks) rules s q P → Lowest (λ m. m.breaks) rules s r Q → q ≡ r
  lowest_one P Q q r loud loud' h k =
      ⊎_elim (λ (p : q < r). absurd (loud h.rule h.here (k.before q h.rule h.numbered p)))
      (λ (p : r ≤ q).
      ⊎_elim (λ (o : r < q). absurd (loud' k.rule k.here (h.before r k.rule k.numbered o))) (λ (o : q ≤ r). let e : q ≡ r = omega arith in e) (cases_lt r q))
      (cases_lt q r)

  same_rule : (P Q : Meaning → Type 0) (q r : ℕ) → q ≡ r → (h : Lowest (λ m. m.breaks) rules s q P) (k : Lowest (λ m. m.breaks) rules s r Q) → h.rule ≡ k.rule
  same_rule P Q q r e h k = numbered_one (rw (sym e) h.numbered) k.numbered

  loud_broken : Loud (λ m. m.breaks s ≡ true)
  loud_broken m b h = cc

  loud_forced : (l : Literal) → Loud (λ m. First m.breaks s l)
  loud_forced l m f h = h.still l f.forced

  both_forced : (q r : ℕ) (k l : Literal) → Answers rules s (Forced q k) → Answers rules s (Forced r l) → Forced q k ≡ Forced r l
  both_forced q r k l h j =
      let e = lowest_one _ _ q r (loud_forced k) (loud_forced l) h j in
      let f = subst (λ (m : Meaning). First m.breaks s k) (same_rule _ _ q r e h j) h.here in
      ap₂ Forced e (first_one j.rule.breaks s k l f j.here)

  not_both : {A : Type 0} (q r : ℕ) (l : Literal) → Answers rules s (Broken q) → Answers rules s (Forced r l) → A
  not_both q r l h j =
      let e = lowest_one _ _ q r loud_broken (loud_forced l) h j in
      let same = same_rule _ _ q r e h j in
      absurd (cc (h.here, j.here.forced.unbroken))

  pub answers_one : (v w : Verdict) → Answers rules s v → Answers rules s w → v ≡ w
  answers_one Quiet Quiet h j = refl
  answers_one Quiet (Broken r) h j = absurd (loud_broken j.rule j.here (h r j.rule j.numbered))
  answers_one Quiet (Forced r l) h j = absurd (loud_forced l j.rule j.here (h r j.rule j.numbered))
  answers_one (Broken q) Quiet h j = absurd (loud_broken h.rule h.here (j q h.rule h.numbered))
  answers_one (Broken q) (Broken r) h j = ap Broken (lowest_one _ _ q r loud_broken loud_broken h j)
  answers_one (Broken q) (Forced r l) h j = not_both q r l h j
  answers_one (Forced q k) Quiet h j = absurd (loud_forced k h.rule h.here (j q h.rule h.numbered))
  answers_one (Forced q k) (Broken r) h j = not_both r q k j h
  answers_one (Forced q k) (Forced r l) h j = both_forced q r k l h j

-- ---- at least one

module _ (B : Setting → Bool) (s : Setting) (whole : B s ≡ false) where
  forces_or : (l : Literal) → Forces B s l ⊎ (Forces B s l → ⊥)
  forces_or l = go (free s l) refl (B (plus s (opposite l))) refl
    where
      go : (a : Bool) → free s l ≡ a → (b : Bool) → B (plus s (opposite l)) ≡ b → Forces B s l ⊎ (Forces B s l → ⊥)
      go true p true q = inl (record { unbroken = whole; free = p; against = q })
      go false p b q = inr (λ f. cc)
      go true p false q = inr (λ f. cc)

  -- no literal of a switch below n is forced
  abbrev NoneBelow : ℕ → Type 0
  NoneBelow n = (l : Literal) → l.switch < n → Forces B s l → ⊥

  first_from : (k n : ℕ) → n + k ≡ 65 → 1 ≤ n → NoneBelow n → ((l : Literal) × First B s l) ⊎ ((l : Literal) → Forces B s l → ⊥)
  first_from zero n e low none = inr (λ l. none l (omega (arith, l.range.1)))
  first_from (suc k) n e low none = at (λ h. first_from k (n + 1) (omega arith) (omega arith) h) (forces_or on) (forces_or off)
    where
      on : Literal
      on = record { switch = n; on = true; range = (low, omega arith) }

      off : Literal
      off = record { switch = n; on = false; range = (low, omega arith) }

      before_on : (j : Literal) → Before j on → Forces B s j → ⊥
      before_on j (inl p) = none j p
      before_on j (inr p) = λ f. cc

      more : (Forces B s on → ⊥) → (Forces B s off → ⊥) → NoneBelow (n + 1)
      more a b j p f = ⊎_elim (λ (q : j.switch < n). none j q f) (λ (q : n ≤ j.switch). let e : j.switch ≡ n = omega arith in side e j.on refl f) (cases_lt j.switch n)
        where
          side : j.switch ≡ n → (o : Bool) → j.on ≡ o → Forces B s j → ⊥
          side e true o g = a (rw (sym (literal_same j on e o)) g)
          side e false o g = b (rw (sym (literal_same j off e o)) g)

      before_off : (Forces B s on → ⊥) → (j : Literal) → Before j off → Forces B s j → ⊥
      before_off a j (inl p) = none j p
      before_off a j (inr p) = λ g. a (rw (sym (literal_same j on p.0 p.1)) g)

      at : (NoneBelow (n + 1) → ((l : Literal) × First B s l) ⊎ ((l : Literal) → Forces B s l → ⊥)) → Forces B s on ⊎ (Forces B s on → ⊥) → Forces B s off ⊎ (Forces B s off → ⊥) → ((l : Literal) × First B s l) ⊎ ((l : Literal) → Forces B s l → ⊥)
      at next (inl f) b = inl (on, record { forced = f; lowest = before_on })
      at next (inr a) (inl f) = inl (off, record { forced = f; lowest = before_off a })
      at next (inr a) (inr b) = next (more a b)

  first_or_none : ((l : Literal) × First B s l) ⊎ ((l : Literal) → Forces B s l → ⊥)
  first_or_none = first_from 64 1 refl (omega arith) (λ l p. let low = l.range.0 in absurd (omega arith))

pub answers_some : (rules : List Meaning) (s : Setting) → (v : Verdict) × Answers rules s v
answers_some [] s = (Quiet, λ q m n. elim n [ ])
answers_some (m ∷ ms) s = at (m.breaks s) refl (answers_some ms s)
  where
    alone : {P : Meaning → Type 0} → P m → Lowest (λ m. m.breaks) (m ∷ ms) s 1 P
    alone p = record { rule = m; numbered = first; here = p; before = λ q x n l. let low = numbered_low n in absurd (omega arith) }

    only : Silent m.breaks s → (q : ℕ) (x : Meaning) → Numbered (m ∷ []) q x → Silent x.breaks s
    only h q x first = h
    only h q x (later n) = elim n [ ]

    forced : m.breaks s ≡ false → ((l : Literal) × First m.breaks s l) ⊎ ((l : Literal) → Forces m.breaks s l → ⊥) → ((v : Verdict) × Answers ms s v) → (v : Verdict) × Answers (m ∷ ms) s v
    forced e (inl f) rest = (Forced 1 f.0, alone f.1)
    forced e (inr still) rest = (after 1 rest.0, answers_second (m ∷ []) ms s rest.0 (only (record { unbroken = e; still = still })) rest.1)

    at : (b : Bool) → m.breaks s ≡ b → ((v : Verdict) × Answers ms s v) → (v : Verdict) × Answers (m ∷ ms) s v
    at true e rest = (Broken 1, alone e)
    at false e rest = forced e (first_or_none m.breaks s e) rest
