-- A rule is refused for what is kept of it in 16 bits exactly as it is for what is written of it; and where it is not
-- refused, what is kept is what is written.
use Rattle.std.proofs.Common.{◌≡◌, ℕ, ◌<◌, ◌≤◌, Bool, true, false, cond, not, ◌||◌, eqb, ltb, leb, List, [], ◌∷◌, ◌++◌, map, length, take, ℤ, pos, Some, None, sum, Option, sym, refl, ap, ◌∙◌, ap₂, ⊎_elim, arith}
use Rattle.std.proofs.lemmas.List.{length-take, length-map, take_all}
use Rattle.std.proofs.lemmas.Bool.{cases_Bool, both_ways, ltb-true, ltb-false, lt-ltb, le-ltb, or_left, or_right, or_parts, ne_eqb, eqb-true, not-false}
use Rattle.literals.specs.declared.refusal.Refusal.{Refusal}
use Rattle.literals.specs.declared.refusal.Refusal.TheVariants.{OutOfRange, TermCount, Weight, SwitchTwice, Degree}
use Rattle.literals.specs.Literals.{no_literal}
use Rattle.literals.specs.Refusals.{Check, first_failed}
use Rattle.literals.proofs.Refused.{past-check}
use Rattle.lists.specs.Lists.{wrong_length, some_outside, switch_twice}
use Rattle.linear.specs.Terms.{bad_after, bad_weights}
use Rattle.linear.specs.Linears.{wrong_count, bad_degree}
use Rattle.entries.specs.declared.kind.RuleKind.{RuleKind}
use Rattle.entries.specs.declared.kind.RuleKind.TheVariants.{AtLeast, AtMost, Clause}
use Rattle.stated.specs.Checks.{not_ones, kind_checks}
use Rattle.stated.specs.Stated.{small_weight, small_switch}

-- ---- switches

-- kept as 0, the number of no literal is still that of none
outside_small : (z : ℤ) → no_literal (small_switch z) ≡ no_literal z
outside_small z = at (no_literal z) refl
  where
    at : (b : Bool) → no_literal z ≡ b → no_literal (cond b (pos 0) z) ≡ b
    at true e = refl
    at false e = e

pub some_outside_small : (zs : List ℤ) → some_outside (map small_switch zs) ≡ some_outside zs
some_outside_small [] = refl
some_outside_small (z ∷ zs) = ap₂ (λ (a b : Bool). a || b) (outside_small z) (some_outside_small zs)

pub switches_same : (zs : List ℤ) → some_outside zs ≡ false → map small_switch zs ≡ zs
switches_same [] h = refl
switches_same (z ∷ zs) h =
    let p = or_parts (no_literal z) (some_outside zs) h in
    ap₂ (λ (x : ℤ) (xs : List ℤ). x ∷ xs) (ap (λ (b : Bool). cond b (pos 0) z) p.0) (switches_same zs p.1)

-- ---- weights

-- kept as 0, a weight above 65,535 is still a bad one
pub bad_small : (before : ℕ) (ws : List ℕ) → before ≤ 65535 → bad_after before (map small_weight ws) ≡ bad_after before ws
bad_small before [] h = refl
bad_small before (w ∷ ws) h = at (bad_small w ws) (ltb 65535 w) refl
  where
    at : (w ≤ 65535 → bad_after w (map small_weight ws) ≡ bad_after w ws) → (b : Bool) → ltb 65535 w ≡ b
        → ((eqb (cond b 0 w) 0 || ltb before (cond b 0 w)) || bad_after (cond b 0 w) (map small_weight ws)) ≡ ((eqb w 0 || ltb before w) || bad_after w ws)
    at later true e = sym (or_left _ _ (or_right _ _ (lt-ltb before w (omega (arith, ltb-true 65535 w e)))))
    at later false e = ap (λ (b : Bool). (eqb w 0 || ltb before w) || b) (later (ltb-false 65535 w e))

weights-after : (before : ℕ) (ws : List ℕ) → before ≤ 65535 → bad_after before ws ≡ false → map small_weight ws ≡ ws
weights-after before [] h b = refl
weights-after before (w ∷ ws) h b =
    let p = or_parts (eqb w 0 || ltb before w) (bad_after w ws) b in
    let q = or_parts (eqb w 0) (ltb before w) p.0 in
    let le : w ≤ before = ltb-false before w q.1 in
    ap₂ (λ (x : ℕ) (xs : List ℕ). x ∷ xs) (ap (λ (b : Bool). cond b 0 w) (le-ltb 65535 w (omega arith))) (weights-after w ws (omega arith) p.1)

pub weights-same : (ws : List ℕ) → bad_weights ws ≡ false → map small_weight ws ≡ ws
weights-same ws h = weights-after 65535 ws (omega arith) h

-- a weight is 1 exactly if it is kept as 1
pub not_ones_small : (ws : List ℕ) → not_ones (map small_weight ws) ≡ not_ones ws
not_ones_small [] = refl
not_ones_small (w ∷ ws) = ap₂ (λ (a b : Bool). not a || b) (at (ltb 65535 w) refl) (not_ones_small ws)
  where
    at : (b : Bool) → ltb 65535 w ≡ b → eqb (cond b 0 w) 1 ≡ eqb w 1
    at true e = sym (ne_eqb w 1 (λ z. let l : 65535 < w = ltb-true 65535 w e in omega arith))
    at false e = refl

ones-same : (ws : List ℕ) → not_ones ws ≡ false → map small_weight ws ≡ ws
ones-same [] h = refl
ones-same (w ∷ ws) h =
    let p = or_parts (not (eqb w 1)) (not_ones ws) h in
    let one : w ≡ 1 = eqb-true w 1 (not-false _ p.0) in
    ap₂ (λ (x : ℕ) (xs : List ℕ). x ∷ xs) (ap (λ (b : Bool). cond b 0 w) (le-ltb 65535 w (omega arith))) (ones-same ws p.1)

-- ---- all checks of a rule whose weights and switches are those of its terms

abbrev pub kept-weights : List ℕ → List ℕ
kept-weights ws = map small_weight (take 17 ws)

abbrev pub kept_switches : List ℤ → List ℤ
kept_switches zs = map small_switch (take 17 zs)

-- the number of terms, then the switches, then the weights, then what else there is
module _ (wrong : List ℕ → List ℤ → Bool) (bad : List ℕ → Bool) (rest : List ℕ → List ℤ → Option Refusal)
    (by_length : (ws vs : List ℕ) (zs ys : List ℤ) → length ws ≡ length vs → length zs ≡ length ys → wrong ws zs ≡ wrong vs ys)
    (too_many : (ws : List ℕ) (zs : List ℤ) → 16 < length zs → wrong ws zs ≡ true)
    (bad_same : (ws : List ℕ) → bad (map small_weight ws) ≡ bad ws)
    (good_same : (ws : List ℕ) → bad ws ≡ false → map small_weight ws ≡ ws) where
  abbrev refusal : List ℕ → List ℤ → Option Refusal
  refusal ws zs = cond (wrong ws zs) (Some TermCount) (cond (some_outside zs) (Some OutOfRange) (cond (bad ws) (Some Weight) (rest ws zs)))

  few_same : (ws : List ℕ) (zs : List ℤ) → refusal (map small_weight ws) (map small_switch zs) ≡ refusal ws zs
  few_same ws zs =
      ap₂ (λ (a : Bool) (o : Option Refusal). cond a (Some TermCount) o) (by_length _ ws _ zs (length-map ws small_weight) (length-map zs small_switch))
      (ap (λ (b : Bool). cond b (Some OutOfRange) (cond (bad (map small_weight ws)) (Some Weight) (rest (map small_weight ws) (map small_switch zs)))) (some_outside_small zs)
      ∙ inside (some_outside zs) refl)
    where
      weighed : (b : Bool) → bad ws ≡ b → map small_switch zs ≡ zs → cond b (Some Weight) (rest (map small_weight ws) (map small_switch zs)) ≡ cond b (Some Weight) (rest ws zs)
      weighed true e q = refl
      weighed false e q = ap₂ rest (good_same ws e) q

      inside : (b : Bool) → some_outside zs ≡ b
          → cond b (Some OutOfRange) (cond (bad (map small_weight ws)) (Some Weight) (rest (map small_weight ws) (map small_switch zs))) ≡ cond b (Some OutOfRange) (cond (bad ws) (Some Weight) (rest ws zs))
      inside true e = refl
      inside false e =
          ap (λ (b : Bool). cond b (Some Weight) (rest (map small_weight ws) (map small_switch zs))) (bad_same ws) ∙ weighed (bad ws) refl (switches_same zs e)

  -- more than 17 are refused for their number, and so are the 17 that are kept
  many_same : (ws : List ℕ) (zs : List ℤ) → 17 < length zs → refusal (kept-weights ws) (kept_switches zs) ≡ refusal ws zs
  many_same ws zs many =
      let k = length-take 17 zs in
      let m = length-map (take 17 zs) small_switch in
      first (wrong (kept-weights ws) (kept_switches zs)) _ (too_many (kept-weights ws) (kept_switches zs) (omega arith)) ∙ sym (first (wrong ws zs) _ (too_many ws zs (omega arith)))
    where
      first : (b : Bool) (o : Option Refusal) → b ≡ true → cond b (Some TermCount) o ≡ Some TermCount
      first b o e = ap (λ (x : Bool). cond x (Some TermCount) o) e

  pub same_refusal : (ws : List ℕ) (zs : List ℤ) → length ws ≡ length zs → refusal (kept-weights ws) (kept_switches zs) ≡ refusal ws zs
  same_refusal ws zs long = ⊎_elim (λ m. many_same ws zs (ltb-true 17 (length zs) m)) few (cases_Bool (ltb 17 (length zs)))
    where
      few : ltb 17 (length zs) ≡ false → refusal (kept-weights ws) (kept_switches zs) ≡ refusal ws zs
      few f =
          let l = ltb-false 17 (length zs) f in
          ap₂ (λ (us : List ℕ) (ys : List ℤ). refusal (map small_weight us) (map small_switch ys)) (take_all 17 ws (omega arith)) (take_all 17 zs l) ∙ few_same ws zs

  pub passed_whole : (ws : List ℕ) (zs : List ℤ) → length ws ≡ length zs → None ≡ refusal ws zs → (kept-weights ws ≡ ws) × (kept_switches zs ≡ zs)
  passed_whole ws zs long p =
      let count = past-check (wrong ws zs) TermCount _ p in
      let inside = past-check (some_outside zs) OutOfRange _ count.1 in
      let weighed = past-check (bad ws) Weight _ inside.1 in
      let l : length zs ≤ 16 = ⊎_elim (λ m. absurd (both_ways _ count.0 (too_many ws zs (ltb-true 16 _ m)))) (ltb-false 16 (length zs)) (cases_Bool (ltb 16 (length zs))) in
      (ap (map small_weight) (take_all 17 ws (omega arith)) ∙ good_same ws weighed.0, ap (map small_switch) (take_all 17 zs (omega arith)) ∙ switches_same zs inside.0)

-- ---- the three kinds

many_terms : (ws : List ℕ) (zs : List ℤ) → 16 < length zs → wrong_count ws zs ≡ true
many_terms ws zs m = or_right (not (eqb (length ws) (length zs))) _ (or_right (ltb (length zs) 1) _ (lt-ltb 16 _ m))

count_by_length : (ws vs : List ℕ) (zs ys : List ℤ) → length ws ≡ length vs → length zs ≡ length ys → wrong_count ws zs ≡ wrong_count vs ys
count_by_length ws vs zs ys e f = ap₂ (λ (m n : ℕ). not (eqb m n) || (ltb n 1 || ltb 16 n)) e f

pub kept_refusal : (k : RuleKind) (ws : List ℕ) (zs : List ℤ) (bound : ℕ) (more : List Check) → length ws ≡ length zs
    → first_failed (kind_checks k (kept-weights ws) (kept_switches zs) bound ++ more) ≡ first_failed (kind_checks k ws zs bound ++ more)
kept_refusal AtLeast ws zs bound more long =
    same_refusal wrong_count bad_weights (λ us ys. cond (switch_twice ys) (Some SwitchTwice) (cond (bad_degree bound) (Some Degree) (first_failed more)))
    count_by_length many_terms (λ us. bad_small 65535 us (omega arith)) weights-same ws zs long
kept_refusal AtMost ws zs bound more long =
    same_refusal wrong_count bad_weights (λ us ys. cond (switch_twice ys) (Some SwitchTwice) (cond (leb (sum us) bound) (Some Degree) (first_failed more)))
    count_by_length many_terms (λ us. bad_small 65535 us (omega arith)) weights-same ws zs long
kept_refusal Clause ws zs bound more long =
    same_refusal (λ us ys. wrong_length ys) not_ones (λ us ys. cond (switch_twice ys) (Some SwitchTwice) (cond (not (eqb bound 1)) (Some Degree) (first_failed more)))
    (λ us vs ys xs e f. ap (λ (n : ℕ). ltb n 1 || ltb 16 n) f) (λ us ys m. or_right (ltb (length ys) 1) _ (lt-ltb 16 _ m)) not_ones_small ones-same ws zs long

pub kept_whole : (k : RuleKind) (ws : List ℕ) (zs : List ℤ) (bound : ℕ) (more : List Check) → length ws ≡ length zs
    → None ≡ first_failed (kind_checks k ws zs bound ++ more) → (kept-weights ws ≡ ws) × (kept_switches zs ≡ zs)
kept_whole AtLeast ws zs bound more long =
    passed_whole wrong_count bad_weights (λ us ys. cond (switch_twice ys) (Some SwitchTwice) (cond (bad_degree bound) (Some Degree) (first_failed more)))
    count_by_length many_terms (λ us. bad_small 65535 us (omega arith)) weights-same ws zs long
kept_whole AtMost ws zs bound more long =
    passed_whole wrong_count bad_weights (λ us ys. cond (switch_twice ys) (Some SwitchTwice) (cond (leb (sum us) bound) (Some Degree) (first_failed more)))
    count_by_length many_terms (λ us. bad_small 65535 us (omega arith)) weights-same ws zs long
kept_whole Clause ws zs bound more long =
    passed_whole (λ us ys. wrong_length ys) not_ones (λ us ys. cond (switch_twice ys) (Some SwitchTwice) (cond (not (eqb bound 1)) (Some Degree) (first_failed more)))
    (λ us vs ys xs e f. ap (λ (n : ℕ). ltb n 1 || ltb 16 n) f) (λ us ys m. or_right (ltb (length ys) 1) _ (lt-ltb 16 _ m)) not_ones_small ones-same ws zs long
