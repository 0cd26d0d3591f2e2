-- How many numbers of a run pass a test, and that the ones of a word count its bits.
use Rattle.std.proofs.Common.{◌≡◌, ℕ, zero, suc, ◌+◌, ◌-◌, ◌/◌, ◌%◌, ◌^◌, ◌<◌, ◌≤◌, Bool, true, false, cond, eqb, ◌≢◌, List, ◌∷◌, length, sym, refl, ap, ◌∙◌, ap₂, ⊎_elim, pow-suc, arith}
use lib.Count.{ones, ones_step, ones-le}
use Rattle.std.proofs.lemmas.Bool.{cases_eq}
use Rattle.std.proofs.lemmas.Bool.Decides.{nat_tests}
use Rattle.bits.specs.Words.{bit, kept}
use Rattle.bits.proofs.Bits.{bit-suc}

kept_cons : (c : Bool) (b : ℕ) (r : List ℕ) → length (cond c (b ∷ r) r) ≡ cond c 1 0 + length r
kept_cons true b r = omega arith
kept_cons false b r = omega arith

-- two tests that agree keep equally many
pub kept_same : (p q : ℕ → Bool) (b k : ℕ) → ((n : ℕ) → b ≤ n → n < b + k → p n ≡ q n) → length (kept p b k) ≡ length (kept q b k)
kept_same p q b zero h = refl
kept_same p q b (suc k) h =
    kept_cons (p b) b _ ∙ ap₂ (λ (c : Bool) (n : ℕ). cond c 1 0 + n) (h b (omega arith) (omega arith)) (kept_same p q (suc b) k (λ n u v. h n (omega arith) (omega arith)))
    ∙ sym (kept_cons (q b) b _)

-- a test that fails at one place more keeps one less
pub kept_less : (p q : ℕ → Bool) (b k n : ℕ) → b ≤ n → n < b + k → p n ≡ true → q n ≡ false → ((m : ℕ) → b ≤ m → m ≢ n → p m ≡ q m)
    → length (kept q b k) + 1 ≡ length (kept p b k)
kept_less p q b zero n u v e f h = absurd (omega arith)
kept_less p q b (suc k) n u v e f h = ⊎_elim here (there (λ lo. kept_less p q (suc b) k n lo (omega arith) e f (λ m u. h m (omega arith)))) (cases_eq b n)
  where
    here : b ≡ n → length (kept q b (suc k)) + 1 ≡ length (kept p b (suc k))
    here d =
        let one : ◌≡◌ {A = ℕ} (cond (p b) 1 0) 1 = ap (λ (c : Bool). cond c 1 0) (ap p d ∙ e) in
        let none : ◌≡◌ {A = ℕ} (cond (q b) 1 0) 0 = ap (λ (c : Bool). cond c 1 0) (ap q d ∙ f) in
        let rest : length (kept p (suc b) k) ≡ length (kept q (suc b) k) = kept_same p q (suc b) k (λ m x y. h m (omega arith) (λ w. absurd (omega arith))) in
        let a = kept_cons (p b) b (kept p (suc b) k) in
        let c = kept_cons (q b) b (kept q (suc b) k) in
        omega arith

    there : (suc b ≤ n → length (kept q (suc b) k) + 1 ≡ length (kept p (suc b) k)) → (b ≡ n → ⊥) → length (kept q b (suc k)) + 1 ≡ length (kept p b (suc k))
    there step d =
        let same_here : ◌≡◌ {A = ℕ} (cond (p b) 1 0) (cond (q b) 1 0) = ap (λ (c : Bool). cond c 1 0) (h b (omega arith) d) in
        let lo : suc b ≤ n = omega arith in
        let ih = step lo in
        let a = kept_cons (p b) b (kept p (suc b) k) in
        let c = kept_cons (q b) b (kept q (suc b) k) in
        omega arith

-- the same test, one number later
pub kept_later : (p : ℕ → Bool) (b k : ℕ) → length (kept p b k) ≡ length (kept (λ n. p (n - 1)) (suc b) k)
kept_later p b zero = refl
kept_later p b (suc k) =
    let e : suc b - 1 ≡ b = omega arith in
    kept_cons (p b) b (kept p (suc b) k)
    ∙ ap₂ (λ (c : Bool) (n : ℕ). cond c 1 0 + n) (sym (ap p e)) (kept_later p (suc b) k)
    ∙ sym (kept_cons (p (suc b - 1)) (suc b) (kept (λ n. p (n - 1)) (suc (suc b)) k))

-- the ones of a word of k bits count its bits
pub ones-kept : (k n : ℕ) → n < 2 ^ k → ones n ≡ length (kept (bit n) 0 k)
ones-kept zero n h = omega (arith, ones-le 0 n h)
ones-kept (suc k) n h =
    ones_step n
    ∙ ap₂ (λ (x y : ℕ). x + y) (lowest n) (ones-kept k (n / 2) (omega (arith, pow-suc 2 k)) ∙ kept_later (bit (n / 2)) 0 k ∙ sym (kept_same (bit n) (λ i. bit (n / 2) (i - 1)) 1 k (λ i u v. above i u)))
    ∙ sym (kept_cons (bit n 0) 0 (kept (bit n) 1 k))
  where
    lowest : (m : ℕ) → m % 2 ≡ cond (bit m 0) 1 0
    lowest m = let e : m / 1 ≡ m = omega arith in digit (m % 2) (omega arith) ∙ ap (λ (x : ℕ). cond (eqb (x % 2) 1) 1 0) (sym e)
      where
        digit : (d : ℕ) → d < 2 → d ≡ cond (eqb d 1) 1 0
        digit d h = grind (arith, nat_tests)

    above : (i : ℕ) → 1 ≤ i → bit n i ≡ bit (n / 2) (i - 1)
    above i u = let e : i ≡ suc (i - 1) = omega arith in ap (bit n) e ∙ bit-suc n (i - 1)
