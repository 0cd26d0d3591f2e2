-- Why a literal stands: going down the trail marks exactly what is reached.
use Rattle.std.proofs.Common.{◌≡◌, ℕ, suc, ◌+◌, ◌-◌, ◌<◌, Bool, true, false, cond, not, ◌&&◌, ◌⊎◌, List, [], ◌∷◌, ◌++◌, length, take, filter, fold, get_or, Some, None, Ok, Err, Result, IfOk, Decides, sym, refl, ap, ap₂, ◌∙◌, subst, inl, inr, ⊎_elim, arith}
use Rattle.std.specs.Result.{result_unwrap_or}
use Rattle.std.proofs.lemmas.List.{take_more}
use Rattle.std.proofs.lemmas.Bool.{and_parts, not-true, or_left, or_right, or_from, or_parts, le-ltb, ltb-false, eq-eqb}
use Rattle.literals.specs.declared.literal.Literal.{Literal}
use Rattle.literals.specs.declared.refusal.Refusal.{Refusal}
use Rattle.literals.specs.declared.setting.Setting.{Setting}
use Rattle.literals.specs.declared.refusal.Refusal.TheVariants.{OutOfRange, NoSuchPlace}
use Rattle.literals.specs.Literals.{no_switch}
use Rattle.literals.specs.Refusals.{first_failed, refusal_of}
use Rattle.literals.specs.Settings.{stands, plus}
use Rattle.literals.proofs.Standing.{plus-has, plus_keeps, plus_cases}
use Rattle.lists.specs.Lists.{distinct, mentioned}
use Rattle.rules.specs.Scans.{Numbered, first, later}
use Rattle.rules.proofs.Numbers.{numbered_low, numbered_high, numbered_one, numbered_at, numbered_left, append_numbered, numbered_right}
use Rattle.shelf.specs.Meanings.{Meaning, OfRule, shut, no_rule, mention_checks}
use Rattle.shelf.proofs.Caps.{number_there, rule_there, mention_there}
use Rattle.runs.specs.declared.step.Step.{Step}
use Rattle.runs.specs.Views.{literals_on}
use Rattle.runs.proofs.Verdicts.{true_false}
use Rattle.reasons.specs.Whys.{Mentions, Named, Marks, mentioned_by, marked_by}

-- ---- each switch has one place

pub place_mentioned : {t : List Step} {k : ℕ} {y : Step} → Numbered t k y → mentioned (literals_on t) y.literal.switch ≡ true
place_mentioned {t} {k} {y} first = or_left _ _ (eq-eqb y.literal.switch y.literal.switch refl)
place_mentioned (later n) = or_right _ _ (place_mentioned n)

head_new : (x : Step) (t : List Step) {k : ℕ} {y : Step} → distinct (literals_on (x ∷ t)) ≡ true → Numbered t k y → x.literal.switch ≡ y.literal.switch → ⊥
head_new x t {k} {y} d n e =
    let once = not-true _ (and_parts (not (mentioned (literals_on t) x.literal.switch)) (distinct (literals_on t)) d).0 in
    cc (place_mentioned n, once)

pub one_place : (t : List Step) {j k : ℕ} {x y : Step} → distinct (literals_on t) ≡ true → Numbered t j x → Numbered t k y → x.literal.switch ≡ y.literal.switch → j ≡ k
one_place [] d n m e = elim n [ ]
one_place (x ∷ t) d first first e = refl
one_place (x ∷ t) d first (later n) e = absurd (head_new x t d n e)
one_place (x ∷ t) d (later n) first e = absurd (head_new x t d n (sym e))
one_place (x ∷ t) d (later n) (later m) e = ap suc (one_place t (and_parts (not (mentioned (literals_on t) x.literal.switch)) (distinct (literals_on t)) d).1 n m e)

-- ---- what a shelf says of a rule and a switch

mentioned_is : (rules : List Meaning) (rule n : ℕ) (m : Meaning) → Numbered rules rule m → mentioned_by rules rule n ≡ m.mentions n
mentioned_is rules rule n m at =
    ap (λ (b : Bool). not b && (get_or rules (rule - 1) (shut 0)).mentions n) (number_there rules rule (numbered_low at) (numbered_high at))
    ∙ ap (λ (x : Meaning). x.mentions n) (numbered_at at (shut 0))

pub unwrapped : (rules : List Meaning) (rule : ℕ) (l : Literal) (k : ℕ) (r : Result Bool Refusal) → k ≡ l.switch → refusal_of r ≡ first_failed (mention_checks rules rule k)
    → IfOk r (λ b. OfRule rules rule (λ m. b ≡ m.mentions k)) → result_unwrap_or r false ≡ mentioned_by rules rule l.switch
unwrapped rules rule l k (Ok b) e p o = o.is ∙ ap o.rule.mentions e ∙ sym (mentioned_is rules rule l.switch o.rule o.numbered)
unwrapped rules rule l k (Err f) e p o = at (no_rule rules rule) refl
  where
    known : no_switch k ≡ false
    known = let a = l.range.0 in let b = l.range.1 in or_from _ _ (le-ltb k 1 (omega (arith, e))) (le-ltb 64 k (omega (arith, e)))

    at : (b : Bool) → no_rule rules rule ≡ b → false ≡ not b && (get_or rules (rule - 1) (shut 0)).mentions l.switch
    at true q = refl
    at false q =
        let none : first_failed (mention_checks rules rule k) ≡ None = ap₂ (λ (a b : Bool). cond a (Some OutOfRange) (cond b (Some NoSuchPlace) None)) known q in
        absurd cc

-- ---- one rule marks what it mentions

module _ (rules : List Meaning) (rule : ℕ) where
  mentions_of : (n : ℕ) → mentioned_by rules rule n ≡ true → Mentions rules rule n
  mentions_of n h =
      let p = and_parts (not (no_rule rules rule)) _ h in
      let q = or_parts _ _ (not-true _ p.0) in
      let low = ltb-false rule 1 q.0 in
      let high = ltb-false (length rules) rule q.1 in
      record { rule = get_or rules (rule - 1) (shut 0); numbered = rule_there rules rule (shut 0) low high; is = p.1 }

  mentioned_of : (n : ℕ) → Mentions rules rule n → mentioned_by rules rule n ≡ true
  mentioned_of n o = mentioned_is rules rule n o.rule o.numbered ∙ o.is

  -- a place is the first, or behind it
  behind : {x y : Step} {t : List Step} {k : ℕ} → Numbered (x ∷ t) k y → (x ≡ y) ⊎ ((j : ℕ) × Numbered t j y)
  behind first = inl refl
  behind (later {r = j} n) = inr (j, n)

  named_here : (x : Step) (t : List Step) (l : Literal) → mentioned_by rules rule x.literal.switch ≡ true → x.literal ≡ l → Named rules (x ∷ t) rule l
  named_here x t l h e = record { place = 1; step = x; at = first; is = e; mentions = rw (sym e) (mentions_of x.literal.switch h) }

  named_later : (x : Step) (t : List Step) (l : Literal) → Named rules t rule l → Named rules (x ∷ t) rule l
  named_later x t l n = record { place = _; step = n.step; at = later n.at; is = n.is; mentions = n.mentions }

  named_behind : (x : Step) (t : List Step) (l : Literal) → Named rules (x ∷ t) rule l → ((x.literal ≡ l) × (mentioned_by rules rule x.literal.switch ≡ true)) ⊎ Named rules t rule l
  named_behind x t l n =
      ⊎_elim
      (λ (e : x ≡ n.step).
      let same = ap (λ (y : Step). y.literal) e ∙ n.is in inl (same, ap (λ (k : Literal). mentioned_by rules rule k.switch) same ∙ mentioned_of l.switch n.mentions))
      (λ p. inr (record { place = p.0; step = n.step; at = p.1; is = n.is; mentions = n.mentions })) (behind n.at)

  pub marks_all : (t : List Step) (s : Setting) → Marks rules t rule s (marked_by rules rule t s)
  marks_all [] s l = ((λ h. inl h), (λ h. ⊎_elim (λ p. p) (λ (n : Named rules [] rule l). elim n.at [ ]) h))
  marks_all (x ∷ t) s l = go (mentioned_by rules rule x.literal.switch) refl (λ r. marks_all t r l)
    where
      named' : Step → Bool
      named' y = mentioned_by rules rule y.literal.switch

      go : (b : Bool) → mentioned_by rules rule x.literal.switch ≡ b
          → ((r : Setting) → Decides (stands (marked_by rules rule t r) l) ((stands r l ≡ true) ⊎ Named rules t rule l))
          → Decides (stands (fold (λ r y. plus r y.literal) s (cond b (x ∷ filter named' t) (filter named' t))) l) ((stands s l ≡ true) ⊎ Named rules (x ∷ t) rule l)
      go true e ih = (
        (λ h. ⊎_elim (λ q. ⊎_elim (λ (i : x.literal ≡ l). inr (named_here x t l e i)) inl (plus_cases s x.literal l q)) (λ n. inr (named_later x t l n)) ((ih (plus s x.literal)).0 h)),
        (λ h. (ih (plus s x.literal)).1 (⊎_elim (λ q. inl (plus_keeps s x.literal l q))
            (λ n. ⊎_elim (λ i. inl (rw (sym i.0) (plus-has s x.literal))) inr (named_behind x t l n)) h)),
      )
      go false e ih = (
        (λ h. ⊎_elim inl (λ n. inr (named_later x t l n)) ((ih s).0 h)),
        (λ h. (ih s).1 (⊎_elim inl (λ n. ⊎_elim (λ i. absurd cc) inr (named_behind x t l n)) h)),
      )

-- ---- the same, step by step: what one answer of a shelf says, and what one step more marks

module _ (rules : List Meaning) (rule : ℕ) where
  -- what a shelf says of a rule and a switch
  mentions_same : (n : ℕ) (a : Bool) → OfRule rules rule (λ m. a ≡ m.mentions n) → Decides a (Mentions rules rule n)
  mentions_same n a o = (
    (λ e. record { rule = o.rule; numbered = o.numbered; is = sym o.is ∙ e }),
    (λ q. o.is ∙ ap (λ (m : Meaning). m.mentions n) (numbered_one o.numbered q.numbered) ∙ q.is),
  )

  mentions_none : (l : Literal) (e : Refusal) → Some e ≡ first_failed (mention_checks rules rule l.switch) → Decides false (Mentions rules rule l.switch)
  mentions_none l e p = (
    (λ h. true_false refl (sym h)),
    (λ q.
        let a = l.range.0 in
        let b = l.range.1 in
        let there = mention_there rules rule l.switch a b (numbered_low q.numbered) (numbered_high q.numbered) in
        absurd cc),
  )

  pub mentions_ok : (n k : ℕ) (a : Bool) → k ≡ n → OfRule rules rule (λ m. a ≡ m.mentions k) → Decides a (Mentions rules rule n)
  mentions_ok n k a e o = subst (λ (j : ℕ). Decides a (Mentions rules rule j)) e (mentions_same k a o)

  pub mentions_err : (l : Literal) (k : ℕ) (e : Refusal) → k ≡ l.switch → Some e ≡ first_failed (mention_checks rules rule k) → Decides false (Mentions rules rule l.switch)
  mentions_err l k e q p = mentions_none l e (subst (λ (j : ℕ). Some e ≡ first_failed (mention_checks rules rule j)) q p)

  pub marks_none : (s : Setting) → Marks rules [] rule s s
  marks_none s l = ((λ h. inl h), (λ h. ⊎_elim (λ p. p) (λ (n : Named rules [] rule l). elim n.at [ ]) h))

  named_more : (t : List Step) (x : Step) (l : Literal) → Named rules t rule l → Named rules (t ++ x ∷ []) rule l
  named_more t x l n = record { place = n.place; step = n.step; at = numbered_left (x ∷ []) n.at; is = n.is; mentions = n.mentions }

  named_last : (t : List Step) (x : Step) (l : Literal) → Named rules (t ++ x ∷ []) rule l → Named rules t rule l ⊎ ((x.literal ≡ l) × Mentions rules rule l.switch)
  named_last t x l n =
      ⊎_elim (λ p. inl (record { place = n.place; step = n.step; at = p; is = n.is; mentions = n.mentions }))
      (λ p. inr (ap (λ (y : Step). y.literal) (sym (only p.2)) ∙ n.is, n.mentions))
      (append_numbered t (x ∷ []) n.at)
    where
      only : {q : ℕ} {y : Step} → Numbered (x ∷ []) q y → y ≡ x
      only first = refl
      only (later m) = elim m [ ]

  pub marks_with : (t : List Step) (x : Step) (s r : Setting) → Marks rules t rule s r → Mentions rules rule x.literal.switch → Marks rules (t ++ x ∷ []) rule s (plus r x.literal)
  marks_with t x s r h m l = (
    (λ p. ⊎_elim
        (λ (e : x.literal ≡ l). inr (record { place = _; step = x; at = numbered_right t first; is = e; mentions = subst (λ (k : Literal). Mentions rules rule k.switch) e m }))
        (λ q. ⊎_elim inl (λ n. inr (named_more t x l n)) ((h l).0 q)) (plus_cases r x.literal l p)),
    (λ p. ⊎_elim (λ q. plus_keeps r x.literal l ((h l).1 (inl q)))
        (λ n. ⊎_elim (λ o. plus_keeps r x.literal l ((h l).1 (inr o)))
        (λ (o : (x.literal ≡ l) × Mentions rules rule l.switch). subst (λ (k : Literal). stands (plus r x.literal) k ≡ true) o.0 (plus-has r x.literal))
        (named_last t x l n)) p),
  )

  pub marks_without : (t : List Step) (x : Step) (s r : Setting) → Marks rules t rule s r → (Mentions rules rule x.literal.switch → ⊥) → Marks rules (t ++ x ∷ []) rule s r
  marks_without t x s r h m l = (
    (λ p. ⊎_elim inl (λ n. inr (named_more t x l n)) ((h l).0 p)),
    (λ p. ⊎_elim (λ q. (h l).1 (inl q))
        (λ n. ⊎_elim (λ o. (h l).1 (inr o)) (λ (o : (x.literal ≡ l) × Mentions rules rule l.switch). absurd (m (subst (λ (k : Literal). Mentions rules rule k.switch) (sym o.0) o.1))) (named_last t x l n)) p),
  )

  -- one step of the loop
  pub marks_next : (t : List Step) (i : ℕ) (x : Step) (s r r' : Setting) → i < length t → x ≡ get_or t i x → Marks rules (take i t) rule s r
      → (Mentions rules rule x.literal.switch × (r' ≡ plus r x.literal)) ⊎ ((Mentions rules rule x.literal.switch → ⊥) × (r' ≡ r)) → Marks rules (take (i + 1) t) rule s r'
  marks_next t i x s r r' lt is h way =
      subst (λ (u : List Step). Marks rules u rule s r') (sym (take_more t i x lt ∙ ap (λ (y : Step). take i t ++ y ∷ []) (sym is)))
      (⊎_elim (λ (p : Mentions rules rule x.literal.switch × (r' ≡ plus r x.literal)). subst (Marks rules (take i t ++ x ∷ []) rule s) (sym p.1) (marks_with (take i t) x s r h p.0))
      (λ (p : (Mentions rules rule x.literal.switch → ⊥) × (r' ≡ r)). subst (Marks rules (take i t ++ x ∷ []) rule s) (sym p.1) (marks_without (take i t) x s r h p.0))
      way)
