-- Levels rise along a trail, so what is left at level k is a front of it, and quiet.
use Rattle.std.proofs.Common.{◌≡◌, ℕ, zero, suc, ◌+◌, ◌-◌, ◌<◌, ◌≤◌, Bool, true, false, cond, leb, ◌⊎◌, List, [], ◌∷◌, ◌++◌, length, get_or, take, sym, refl, ap, ◌∙◌, subst, inl, inr, ⊎_elim, arith}
use Rattle.std.proofs.lemmas.List.{append-nil, length_push, length-take-le, take-append-le, take_all}
use Rattle.std.proofs.lemmas.Bool.{cases_lt}
use Rattle.std.proofs.lemmas.Bool.Decides.{nat_tests}
use Rattle.literals.specs.declared.literal.Literal.{Literal}
use Rattle.rules.specs.declared.Verdict.{Verdict}
use Rattle.rules.specs.declared.Verdict.TheVariants.{Quiet}
use Rattle.rules.specs.Scans.{Numbered, first}
use Rattle.rules.proofs.Numbers.{numbered_one, numbered_right, numbered_take, at_numbered}
use Rattle.shelf.specs.Meanings.{Meaning, Answers}
use Rattle.runs.specs.declared.step.Step.{Step}
use Rattle.runs.specs.Views.{standing, up_to}
use Rattle.runs.specs.Calls.{Settles, quiet, broken, locks}
use Rattle.runs.proofs.Trails.{Trail, empty, chose, locked}

up_to-push : (k : ℕ) (t : List Step) (x : Step) → up_to k (t ++ x ∷ []) ≡ up_to k t ++ up_to k (x ∷ [])
up_to-push k [] x = refl
up_to-push k (y ∷ t) x = go (leb y.level k) (up_to-push k t x)
  where
    go : (b : Bool) → up_to k (t ++ x ∷ []) ≡ up_to k t ++ up_to k (x ∷ [])
        → cond b (y ∷ up_to k (t ++ x ∷ [])) (up_to k (t ++ x ∷ [])) ≡ cond b (y ∷ up_to k t) (up_to k t) ++ up_to k (x ∷ [])
    go true h = ap (λ (u : List Step). y ∷ u) h
    go false h = h

pub above : (k : ℕ) (t : List Step) (x : Step) → k < x.level → up_to k (t ++ x ∷ []) ≡ up_to k t
above k t x h =
    let e : leb x.level k ≡ false = grind (arith, nat_tests) in
    up_to-push k t x ∙ ap (λ (b : Bool). up_to k t ++ cond b (x ∷ []) []) e ∙ append-nil (up_to k t)

below : (k : ℕ) (t : List Step) (x : Step) → x.level ≤ k → up_to k (t ++ x ∷ []) ≡ up_to k t ++ x ∷ []
below k t x h =
    let e : leb x.level k ≡ true = grind (arith, nat_tests) in
    up_to-push k t x ∙ ap (λ (b : Bool). up_to k t ++ cond b (x ∷ []) []) e

-- some step of a trail that has one
step_there : (t : List Step) {n : ℕ} → suc n ≤ length t → Step
step_there [] h = absurd (omega arith)
step_there (x ∷ t) h = x

last_place : (t : List Step) (y : Step) {x : Step} → Numbered (t ++ y ∷ []) (length (t ++ y ∷ [])) x → x ≡ y
last_place t y {x} n = numbered_one (subst (λ (i : ℕ). Numbered (t ++ y ∷ []) i x) (length_push t y) n) (numbered_right t first)

module _ (rules : List Meaning) where
  -- the first n of a trail with one more step are all of it, or the first n without
  whole_or_part : (n : ℕ) (t : List Step) (y : Step) (c : List Literal) → Trail rules c (t ++ y ∷ []) → (n ≤ length t → (d : List Literal) × Trail rules d (take n t)) → n ≤ length (t ++ y ∷ [])
      → (d : List Literal) × Trail rules d (take n (t ++ y ∷ []))
  whole_or_part n t y c tr part h =
      ⊎_elim (λ (p : n < length t + 1).
      let d = part (omega arith) in (d.0, rw (take-append-le n t (y ∷ []) (omega arith)) d.1))
      (λ (p : length t + 1 ≤ n). (c, rw (take_all n (t ++ y ∷ []) (omega (arith, length_push t y))) tr))
      (cases_lt n (length t + 1))

  -- no level is above the number of chosen literals
  pub up_to_all : {c : List Literal} {t : List Step} (k : ℕ) → Trail rules c t → length c ≤ k → up_to k t ≡ t
  up_to_all k empty h = refl
  up_to_all k (chose {c = c} {t = t} y back q f e z) h =
      let n = length_push c y.literal in
      below k t y (omega arith) ∙ ap (λ (u : List Step). u ++ y ∷ []) (up_to_all k back (omega arith))
  up_to_all k (locked {t = t} y back r a e z) h = below k t y (omega arith) ∙ ap (λ (u : List Step). u ++ y ∷ []) (up_to_all k back h)

  -- ---- fronts of a trail

  prefix : {c : List Literal} {t : List Step} (n : ℕ) → Trail rules c t → n ≤ length t → (d : List Literal) × Trail rules d (take n t)
  prefix n empty h = let e : n ≡ 0 = omega arith in ([], rw e empty)
  prefix n (chose {c = c} {t = t} y back q f e z) h =
      whole_or_part n t y (c ++ y.literal ∷ []) (chose {t = t} y back q f e z) (λ p. prefix n back p) h
  prefix n (locked {c = c} {t = t} y back r a e z) h = whole_or_part n t y c (locked {t = t} y back r a e z) (λ p. prefix n back p) h

  last_level : {c : List Literal} {t : List Step} {x : Step} → Trail rules c t → Numbered t (length t) x → x.level ≡ length c
  last_level empty n = elim n [ ]
  last_level (chose {c = c} {t = t} y back q f e z) n =
      ap (λ (w : Step). w.level) (last_place t y n) ∙ e ∙ sym (length_push c y.literal)
  last_level (locked {t = t} y back r a e z) n = ap (λ (w : Step). w.level) (last_place t y n) ∙ e

  -- a front that has all steps at level k or below, and whose last is one of them, has no others
  pub front_up_to : {c : List Literal} {t : List Step} (k n : ℕ) → Trail rules c t → n ≤ length t → up_to k (take n t) ≡ up_to k t
      → ((x : Step) → Numbered t n x → x.level ≤ k) → take n t ≡ up_to k t
  front_up_to {t = t} k zero tr h e low = e
  front_up_to {t = t} k (suc n) tr h e low =
      let p = prefix (suc n) tr h in
      let m : length (take (suc n) t) ≡ suc n = length-take-le (suc n) t h in
      let z : suc n - 1 ≡ n = omega arith in
      let s : n + 1 ≡ suc n = omega arith in
      let x : Step = get_or t n (step_there t h) in
      let here : Numbered t (suc n) x = rw (sym s) (at_numbered t n (step_there t h) (omega arith)) in
      let last = last_level p.1 (subst (λ (i : ℕ). Numbered (take (suc n) t) i x) (sym m) (numbered_take (suc n) here (omega arith))) in
      let small = low x here in
      sym (up_to_all k p.1 (omega arith)) ∙ e

  -- ---- going back

  -- what is left at level k is a trail again, and quiet, since a literal is chosen only from there
  pub record Left (k : ℕ) (c : List Literal) (t : List Step) : Type 0 where
    pub trail : Trail rules (take k c) (up_to k t)
    pub rests : Answers rules (standing (up_to k t)) Quiet

  pub back_to : {c : List Literal} {t : List Step} (k : ℕ) → Trail rules c t → k < length c → Left k c t
  back_to k empty h = absurd (omega arith)
  back_to k (chose {c = c} {t = t} y back q f e z) h = go (λ p. back_to k back p) (cases_lt k (length c))
    where
      n : length (c ++ y.literal ∷ []) ≡ length c + 1
      n = length_push c y.literal

      fewer : k ≤ length c → take k (c ++ y.literal ∷ []) ≡ take k c
      fewer p = take-append-le k c (y.literal ∷ []) p

      cut : k ≤ length c → up_to k (t ++ y ∷ []) ≡ up_to k t
      cut p = above k t y (omega (arith, n))

      go : (k < length c → Left k c t) → (k < length c) ⊎ (length c ≤ k) → Left k (c ++ y.literal ∷ []) (t ++ y ∷ [])
      go ih (inl p) =
          let a : take k (c ++ y.literal ∷ []) ≡ take k c = fewer (omega arith) in
          let b : up_to k (t ++ y ∷ []) ≡ up_to k t = cut (omega arith) in
          record {
            trail = rw a (rw b (ih p).trail);
            rests = rw b (ih p).rests;
          }
      go ih (inr p) =
          let d : k ≤ length c = omega (arith, n) in
          let a : take k (c ++ y.literal ∷ []) ≡ c = fewer d ∙ take_all k c (omega arith) in
          let b : up_to k (t ++ y ∷ []) ≡ t = cut d ∙ up_to_all k back p in
          record {
            trail = rw a (rw b back);
            rests = rw b q;
          }
  back_to k (locked {c = c} {t = t} y back r a e z) h =
      let b : up_to k (t ++ y ∷ []) ≡ up_to k t = above k t y (omega arith) in
      record {
        trail = rw b (back_to k back h).trail;
        rests = rw b (back_to k back h).rests;
      }

  -- ---- settling

  pub record SettledAt (c : List Literal) (t : List Step) (v : Verdict) : Type 0 where
    pub trail : Trail rules c t
    pub answer : Answers rules (standing t) v

  pub settle_trail : {c : List Literal} (level : ℕ) {t u : List Step} {v : Verdict} → level ≡ length c → Settles rules level t u v → Trail rules c t → SettledAt c u v
  settle_trail level e (quiet a) tr = record { trail = tr; answer = a }
  settle_trail level e (broken a) tr = record { trail = tr; answer = a }
  settle_trail level e (locks a s) tr = settle_trail level e s (locked _ tr _ a e refl)
