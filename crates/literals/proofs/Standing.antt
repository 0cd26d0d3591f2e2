-- What stands in a set that is empty, to which a literal was added, or from which one was taken.
use Rattle.std.proofs.Common.{◌≡◌, ℕ, zero, suc, ◌+◌, ◌-◌, ◌^◌, ◌<◌, ◌≤◌, Bool, true, false, cond, not, ◌&&◌, ◌||◌, eqb, ◌⊎◌, List, [], ◌∷◌, pos, neg_ℤ, sym, refl, ap, ◌∙◌, subst, ap₂, inl, inr, ⊎_elim, arith, pow_pos}
use mathlib.Core.Bool.{beq}
use lib.Bits.{bit_and, bit_or, or_lt}
use Rattle.std.proofs.lemmas.Nat.{pow_below}
use Rattle.std.proofs.lemmas.Bool.{and_parts, or_left, or_right, or_cases, not-true}
use Rattle.std.proofs.lemmas.Bool.Decides.{nat_tests}
use Rattle.bits.specs.Words.{bit}
use Rattle.bits.proofs.Bits.{word_same, bit_with, bit_without, bit-zero, has_bits, or_same, with_without}
use Rattle.literals.specs.declared.literal.Literal.{Literal}
use Rattle.literals.specs.declared.setting.Setting.{Setting}
use Rattle.literals.specs.Literals.{number, opposite, same}
use Rattle.literals.specs.Settings.{stands, stands_number, free, plus, minus, nothing, side_word, with_word, ◌⊆◌, plus_all}
use Rattle.literals.proofs.Known.{same_self, same_is}

pub nothing-stands : (l : Literal) → stands nothing l ≡ false
unfolding stands nothing
nothing-stands l = go l.on
  where
    go : (b : Bool) → bit (cond b 0 0) (l.switch - 1) ≡ false
    go true = bit-zero (l.switch - 1)
    go false = bit-zero (l.switch - 1)

-- ---- a literal added

-- bits and switches number alike
bit_of_switch : (n m : ℕ) → 1 ≤ n → 1 ≤ m → eqb (m - 1) (n - 1) ≡ eqb n m
bit_of_switch n m p q = grind (arith, nat_tests)

side_or : (a b i j : ℕ) (p q : Bool) → bit (cond q (cond p (bit_or a (2 ^ i)) a) (cond p b (bit_or b (2 ^ i)))) j ≡ ((eqb j i && beq p q) || bit (cond q a b) j)
side_or a b i j true true = bit_with a i j ∙ grind arith
side_or a b i j true false = grind arith
side_or a b i j false true = grind arith
side_or a b i j false false = bit_with b i j ∙ grind arith

pub stands-plus : (s : Setting) (l m : Literal) → stands (plus s l) m ≡ (same l m || stands s m)
unfolding stands plus
stands-plus s l m =
    side_or s.on s.off (l.switch - 1) (m.switch - 1) l.on m.on
    ∙ ap (λ (t : Bool). (t && beq l.on m.on) || stands s m) (bit_of_switch l.switch m.switch l.range.0 m.range.0)

pub plus-has : (s : Setting) (l : Literal) → stands (plus s l) l ≡ true
plus-has s l = stands-plus s l l ∙ or_left _ _ (same_self l)

pub plus_keeps : (s : Setting) (l : Literal) → s ⊆ plus s l
plus_keeps s l m h = stands-plus s l m ∙ or_right _ _ h

pub plus_cases : (s : Setting) (l m : Literal) → stands (plus s l) m ≡ true → (l ≡ m) ⊎ (stands s m ≡ true)
plus_cases s l m h = ⊎_elim (λ e. inl (same_is l m e)) inr (or_cases (same l m) (stands s m) (sym (stands-plus s l m) ∙ h))

pub plus_within : (s x : Setting) (l : Literal) → s ⊆ x → stands x l ≡ true → plus s l ⊆ x
plus_within s x l sub has m h = ⊎_elim (λ (e : l ≡ m). subst (λ (k : Literal). stands x k ≡ true) e has) (sub m) (plus_cases s l m h)

pub free_parts : (s : Setting) (l : Literal) → free s l ≡ true → (stands s l ≡ false) × (stands s (opposite l) ≡ false)
free_parts s l h =
    let both = and_parts (not (stands s l)) (not (stands s (opposite l))) h in
    (not-true _ both.0, not-true _ both.1)

-- ---- a literal taken out

side_without : (a b i j : ℕ) (p q : Bool) → i < 64 → j < 64
    → bit (cond q (cond p (bit_and a ((2 ^ 64 - 1) - 2 ^ i)) a) (cond p b (bit_and b ((2 ^ 64 - 1) - 2 ^ i)))) j ≡ (not (eqb j i && beq p q) && bit (cond q a b) j)
side_without a b i j true true u v = bit_without 64 a i j u v ∙ grind arith
side_without a b i j true false u v = grind arith
side_without a b i j false true u v = grind arith
side_without a b i j false false u v = bit_without 64 b i j u v ∙ grind arith

pub stands-minus : (s : Setting) (l m : Literal) → stands (minus s l) m ≡ (not (same l m) && stands s m)
unfolding stands minus
stands-minus s l m =
    side_without s.on s.off (l.switch - 1) (m.switch - 1) l.on m.on (below l.switch l.range.1) (below m.switch m.range.1)
    ∙ ap (λ (t : Bool). not (t && beq l.on m.on) && stands s m) (bit_of_switch l.switch m.switch l.range.0 m.range.0)
  where
    below : (n : ℕ) → n ≤ 64 → n - 1 < 64
    below n h = omega arith

-- both words have 64 bits
abbrev pub Fits : Setting → Type 0
Fits s = (s.on < 2 ^ 64) × (s.off < 2 ^ 64)

pub nothing_fits : Fits nothing
unfolding nothing
nothing_fits = (pow_pos 64, pow_pos 64)

pub plus_fits : (s : Setting) (l : Literal) → Fits s → Fits (plus s l)
unfolding plus
plus_fits s l f = at l.on
  where
    grown : (w : ℕ) → w < 2 ^ 64 → bit_or w (2 ^ (l.switch - 1)) < 2 ^ 64
    grown w h = or_lt 64 w (2 ^ (l.switch - 1)) h (pow_below (l.switch - 1) 64 (omega (arith, l.range.0, l.range.1)))

    at : (b : Bool) → (cond b (bit_or s.on (2 ^ (l.switch - 1))) s.on < 2 ^ 64) × (cond b s.off (bit_or s.off (2 ^ (l.switch - 1))) < 2 ^ 64)
    at true = (grown s.on f.0, f.1)
    at false = (f.0, grown s.off f.1)

pub plus_all_fits : (s : Setting) (ls : List Literal) → Fits s → Fits (plus_all s ls)
plus_all_fits s [] f = f
plus_all_fits s (l ∷ ls) f = plus_all_fits (plus s l) ls (plus_fits s l f)

-- a literal added and taken out again
pub minus_plus : (s : Setting) (l : Literal) → Fits s → stands s l ≡ false → minus (plus s l) l ≡ s
unfolding stands plus minus
minus_plus s l f off = at l.on off
  where
    low : l.switch - 1 < 64
    low = omega (arith, l.range.0, l.range.1)

    at : (b : Bool) → bit (cond b s.on s.off) (l.switch - 1) ≡ false
        → ◌≡◌ {A = Setting}
        (record {
          on = cond b (bit_and (cond b (bit_or s.on (2 ^ (l.switch - 1))) s.on) ((2 ^ 64 - 1) - 2 ^ (l.switch - 1))) (cond b (bit_or s.on (2 ^ (l.switch - 1))) s.on);
          off = cond b (cond b s.off (bit_or s.off (2 ^ (l.switch - 1)))) (bit_and (cond b s.off (bit_or s.off (2 ^ (l.switch - 1)))) ((2 ^ 64 - 1) - 2 ^ (l.switch - 1)));
        })
        s
    at true h = ap (λ (w : ℕ). record { on = w; off = s.off }) (with_without 64 s.on (l.switch - 1) f.0 low h)
    at false h = ap (λ (w : ℕ). record { on = s.on; off = w }) (with_without 64 s.off (l.switch - 1) f.1 low h)

-- ---- a literal by its number

pub number-stands : (s : Setting) (l : Literal) → stands_number s (number l) ≡ stands s l
unfolding stands stands_number
number-stands s l = at l.on l.switch l.range.0
  where
    at : (b : Bool) (n : ℕ) → 1 ≤ n → stands_number s (cond b (pos n) (neg_ℤ (pos n))) ≡ bit (cond b s.on s.off) (n - 1)
    at true n h = refl
    at false zero h = absurd (omega arith)
    at false (suc n) h = let e : n ≡ suc n - 1 = omega arith in ap (bit s.off) e

-- ---- the code's words

pub without_side : (s : Setting) (l : Literal) (w : ℕ) (b : Bool) → w ≡ 2 ^ (l.switch - 1) → l.on ≡ b
    → ◌≡◌ {A = Setting} (record { on = cond b (bit_and s.on ((2 ^ 64 - 1) - w)) s.on; off = cond b s.off (bit_and s.off ((2 ^ 64 - 1) - w)) }) (minus s l)
unfolding minus
without_side s l w b e h =
    ap₂ (λ (x : ℕ) (d : Bool). record { on = cond d (bit_and s.on ((2 ^ 64 - 1) - x)) s.on; off = cond d s.off (bit_and s.off ((2 ^ 64 - 1) - x)) }) e (sym h)

pub with_side : (s : Setting) (l : Literal) (w : ℕ) (b : Bool) → w ≡ 2 ^ (l.switch - 1) → l.on ≡ b
    → ◌≡◌ {A = Setting} (record { on = cond b (bit_or s.on w) s.on; off = cond b s.off (bit_or s.off w) }) (plus s l)
unfolding plus
with_side s l w b e h =
    ap₂ (λ (x : ℕ) (d : Bool). record { on = cond d (bit_or s.on x) s.on; off = cond d s.off (bit_or s.off x) }) e (sym h)

-- the word of a literal's side, with its bit taken out
pub side_minus : (s : Setting) (l : Literal) (w b : ℕ) → b ≡ 2 ^ (l.switch - 1) → w ≡ bit_and (side_word s l) ((2 ^ 64 - 1) - b) → with_word s l w ≡ minus s l
side_minus s l w b e h = ap (with_word s l) h ∙ at l.on ∙ without_side s l b l.on e refl
  where
    at : (d : Bool) → ◌≡◌ {A = Setting}
        (record { on = cond d (bit_and (cond d s.on s.off) ((2 ^ 64 - 1) - b)) s.on; off = cond d s.off (bit_and (cond d s.on s.off) ((2 ^ 64 - 1) - b)) })
        (record { on = cond d (bit_and s.on ((2 ^ 64 - 1) - b)) s.on; off = cond d s.off (bit_and s.off ((2 ^ 64 - 1) - b)) })
    at true = refl
    at false = refl

-- the same with its bit put in
pub side_plus : (s : Setting) (l : Literal) (w b : ℕ) → b ≡ 2 ^ (l.switch - 1) → w ≡ bit_or (side_word s l) b → with_word s l w ≡ plus s l
side_plus s l w b e h = ap (with_word s l) h ∙ at l.on ∙ with_side s l b l.on e refl
  where
    at : (d : Bool) → ◌≡◌ {A = Setting}
        (record { on = cond d (bit_or (cond d s.on s.off) b) s.on; off = cond d s.off (bit_or (cond d s.on s.off) b) })
        (record { on = cond d (bit_or s.on b) s.on; off = cond d s.off (bit_or s.off b) })
    at true = refl
    at false = refl

module _ (s t : Setting) where
  pub within_words : bit_or t.on s.on ≡ t.on → bit_or t.off s.off ≡ t.off → s ⊆ t
  unfolding stands
  within_words p q l h = side l.on h
    where
      side : (b : Bool) → bit (cond b s.on s.off) (l.switch - 1) ≡ true → bit (cond b t.on t.off) (l.switch - 1) ≡ true
      side true = has_bits t.on s.on p (l.switch - 1)
      side false = has_bits t.off s.off q (l.switch - 1)

  pub words_within : (b : Bool) → cond b s.on s.off < 2 ^ 64 → cond b t.on t.off < 2 ^ 64 → s ⊆ t
      → bit_or (cond b t.on t.off) (cond b s.on s.off) ≡ cond b t.on t.off
  unfolding stands
  words_within b p q h = or_same 64 _ _ q p (λ j lt. at j (h (record { switch = j + 1; on = b; range = (omega arith, omega arith) })))
    where
      at : (j : ℕ) → (bit (cond b s.on s.off) ((j + 1) - 1) ≡ true → bit (cond b t.on t.off) ((j + 1) - 1) ≡ true)
          → bit (cond b s.on s.off) j ≡ true → bit (cond b t.on t.off) j ≡ true
      at j f =
          let n : (j + 1) - 1 ≡ j = omega arith in
          subst (λ (i : ℕ). bit (cond b s.on s.off) i ≡ true → bit (cond b t.on t.off) i ≡ true) n f

-- sets with the same literals are one
pub set_same : (s t : Setting) → Fits s → Fits t → ((l : Literal) → stands s l ≡ stands t l) → s ≡ t
unfolding stands
set_same s t f g h =
    ap₂ (λ (a b : ℕ). record { on = a; off = b }) (word_same 64 s.on t.on f.0 g.0 (λ j lt. at true j lt)) (word_same 64 s.off t.off f.1 g.1 (λ j lt. at false j lt))
  where
    at : (b : Bool) (j : ℕ) → j < 64 → bit (cond b s.on s.off) j ≡ bit (cond b t.on t.off) j
    at b j lt =
        let n : (j + 1) - 1 ≡ j = omega arith in
        subst (λ (i : ℕ). bit (cond b s.on s.off) i ≡ bit (cond b t.on t.off) i) n (h (record { switch = j + 1; on = b; range = (omega arith, omega arith) }))
