-- Rule numbers as places in a list, and the steps of a scan.
use Rattle.std.proofs.Common.{◌≡◌, ℕ, zero, suc, ◌+◌, ◌-◌, ◌<◌, ◌≤◌, Bool, ◌⊎◌, List, [], ◌∷◌, ◌++◌, map, length, get_or, take, sym, refl, ap, ◌∙◌, subst, inl, inr, ⊎_elim, arith}
use Rattle.std.proofs.lemmas.Bool.{cases_lt}
use Rattle.literals.specs.declared.setting.Setting.{Setting}
use Rattle.rules.specs.Rules.{Silent}
use Rattle.rules.specs.Scans.{Numbered, first, later, Lowest}

pub numbered_low : {R : Type 0} {xs : List R} {r : ℕ} {x : R} → Numbered xs r x → 1 ≤ r
numbered_low first = omega arith
numbered_low (later n) = omega arith

pub numbered_high : {R : Type 0} {xs : List R} {r : ℕ} {x : R} → Numbered xs r x → r ≤ length xs
numbered_high first = omega arith
numbered_high (later n) = let h = numbered_high n in omega arith

-- rule i + 1 stands at place i
pub at_numbered : {R : Type 0} (xs : List R) (i : ℕ) (d : R) → i < length xs → Numbered xs (i + 1) (get_or xs i d)
at_numbered [] i d lt = absurd (omega arith)
at_numbered (x ∷ xs) zero d lt = first
at_numbered (x ∷ xs) (suc i) d lt =
    let e : suc (i + 1) ≡ suc i + 1 = omega arith in
    subst (λ (r : ℕ). Numbered (x ∷ xs) r (get_or xs i d)) e (later (at_numbered xs i d (omega arith)))

pub numbered_at : {R : Type 0} {xs : List R} {r : ℕ} {x : R} → Numbered xs r x → (d : R) → get_or xs (r - 1) d ≡ x
numbered_at first d = refl
numbered_at {R} (later {x} {y} {xs} {r} n) d =
    let low = numbered_low n in
    let e : suc r - 1 ≡ suc (r - 1) = omega arith in
    ap (λ (i : ℕ). get_or (y ∷ xs) i d) e ∙ numbered_at n d

pub numbered_one : {R : Type 0} {xs : List R} {r : ℕ} {x y : R} → Numbered xs r x → Numbered xs r y → x ≡ y
numbered_one {x} n m = sym (numbered_at n x) ∙ numbered_at m x

-- ---- a scan that has come to place i

-- the rules of the first n numbers are silent
abbrev pub SilentTo : {R : Type 0} → (R → Setting → Bool) → List R → Setting → ℕ → Type 0
SilentTo {R} breaks xs s n = (q : ℕ) (x : R) → Numbered xs q x → q ≤ n → Silent (breaks x) s

module _ {R : Type 0} (breaks : R → Setting → Bool) (xs : List R) (s : Setting) (i : ℕ) (x : R) (lt : i < length xs) (is : x ≡ get_or xs i x) (silent : SilentTo breaks xs s i) where
  here : Numbered xs (i + 1) x
  here = subst (Numbered xs (i + 1)) (sym is) (at_numbered xs i x lt)

  pub found : (P : R → Type 0) → P x → Lowest breaks xs s (i + 1) P
  found P p = record { rule = x; numbered = here; here = p; before = λ q y n l. silent q y n (omega arith) }

  pub silent_more : Silent (breaks x) s → SilentTo breaks xs s (i + 1)
  silent_more h q y n l =
      ⊎_elim (λ (b : q < i + 1). silent q y n (omega arith))
      (λ (b : i + 1 ≤ q).
      let e : q ≡ i + 1 = omega arith in
      subst (λ (z : R). Silent (breaks z) s) (numbered_one here (subst (λ (k : ℕ). Numbered xs k y) e n)) h)
      (cases_lt q (i + 1))

module _ {R : Type 0} (breaks : R → Setting → Bool) (xs : List R) (s : Setting) where
  pub silent_none : SilentTo breaks xs s 0
  silent_none q x n l = let low = numbered_low n in absurd (omega arith)

  pub silent_all : (i : ℕ) → length xs ≤ i → SilentTo breaks xs s i → (q : ℕ) (x : R) → Numbered xs q x → Silent (breaks x) s
  silent_all i le silent q x n = let high = numbered_high n in silent q x n (omega arith)

-- ---- numbers in a list made from others

pub numbered_map : {R S : Type 0} (f : R → S) {xs : List R} {r : ℕ} {x : R} → Numbered xs r x → Numbered (map f xs) r (f x)
numbered_map f first = first
numbered_map f (later n) = later (numbered_map f n)

pub map_numbered : {R S : Type 0} (f : R → S) (xs : List R) {r : ℕ} {y : S} → Numbered (map f xs) r y → (x : R) × Numbered xs r x × (f x ≡ y)
map_numbered f [] n = elim n [ ]
map_numbered f (x ∷ xs) first = (x, first, refl)
map_numbered f (x ∷ xs) (later n) = let h = map_numbered f xs n in (h.0, later h.1, h.2)

pub numbered_left : {R : Type 0} {xs : List R} (ys : List R) {r : ℕ} {x : R} → Numbered xs r x → Numbered (xs ++ ys) r x
numbered_left ys first = first
numbered_left ys (later n) = later (numbered_left ys n)

pub numbered_right : {R : Type 0} (xs : List R) {ys : List R} {r : ℕ} {x : R} → Numbered ys r x → Numbered (xs ++ ys) (length xs + r) x
numbered_right [] {ys} {r} {x} n = let e : r ≡ 0 + r = omega arith in subst (λ (k : ℕ). Numbered ys k x) e n
numbered_right (z ∷ xs) {ys} {r} {x} n =
    let e : suc (length xs + r) ≡ suc (length xs) + r = omega arith in
    subst (λ (k : ℕ). Numbered (z ∷ (xs ++ ys)) k x) e (later (numbered_right xs n))

pub append_numbered : {R : Type 0} (xs ys : List R) {r : ℕ} {x : R} → Numbered (xs ++ ys) r x → Numbered xs r x ⊎ ((q : ℕ) × (r ≡ length xs + q) × Numbered ys q x)
append_numbered [] ys {r} n = inr (r, omega arith, n)
append_numbered (z ∷ xs) ys first = inl first
append_numbered (z ∷ xs) ys (later n) = ⊎_elim (λ p. inl (later p)) (λ p. inr (p.0, omega (arith, p.1), p.2)) (append_numbered xs ys n)

pub numbered_take : {R : Type 0} (k : ℕ) {xs : List R} {r : ℕ} {x : R} → Numbered xs r x → r ≤ k → Numbered (take k xs) r x
numbered_take zero n h = let low = numbered_low n in absurd (omega arith)
numbered_take (suc k) first h = first
numbered_take (suc k) (later n) h = later (numbered_take k n (omega arith))
