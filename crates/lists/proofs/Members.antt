-- A list of literals and the set of them have the same members.
use Rattle.std.proofs.Common.{◌≡◌, ℕ, Bool, true, false, ◌⊎◌, List, [], ◌∷◌, map, length, sym, refl, ap, subst, inl, inr, ⊎_elim, arith}
use Rattle.literals.specs.declared.literal.Literal.{Literal}
use Rattle.literals.specs.declared.setting.Setting.{Setting}
use Rattle.literals.specs.Literals.{number}
use Rattle.literals.specs.Settings.{stands, plus, plus_all, nothing, set_of, free_count, ◌⊆◌}
use Rattle.literals.proofs.Known.{number_same}
use Rattle.literals.proofs.Standing.{nothing-stands, nothing_fits, plus-has, plus_keeps, plus_cases, plus_all_fits, set_same}
use Rattle.lists.specs.Lists.{distinct, ◌∈◌}
use Rattle.lists.proofs.Sets.{count_free}

pub plus_all_keeps : (s : Setting) (ls : List Literal) → s ⊆ plus_all s ls
plus_all_keeps s [] l h = h
plus_all_keeps s (k ∷ ks) l h = plus_all_keeps (plus s k) ks l (plus_keeps s k l h)

in_all : (s : Setting) (ls : List Literal) (l : Literal) → number l ∈ map number ls → stands (plus_all s ls) l ≡ true
in_all s [] l h = elim h [ ]
in_all s (k ∷ ks) l (inl e) = plus_all_keeps (plus s k) ks l (subst (λ (m : Literal). stands (plus s k) m ≡ true) (sym (number_same l k e)) (plus-has s k))
in_all s (k ∷ ks) l (inr h) = in_all (plus s k) ks l h

all_in : (s : Setting) (ls : List Literal) (l : Literal) → stands (plus_all s ls) l ≡ true → (stands s l ≡ true) ⊎ (number l ∈ map number ls)
all_in s [] l h = inl h
all_in s (k ∷ ks) l h =
    ⊎_elim (λ p. ⊎_elim (λ (e : k ≡ l). inr (inl (ap number (sym e)))) inl (plus_cases s k l p)) (λ p. inr (inr p)) (all_in (plus s k) ks l h)

pub in_set : (ls : List Literal) (l : Literal) → number l ∈ map number ls → stands (set_of ls) l ≡ true
in_set ls l h = in_all nothing ls l h

pub set_in : (ls : List Literal) (l : Literal) → stands (set_of ls) l ≡ true → number l ∈ map number ls
set_in ls l h = ⊎_elim (λ (p : stands nothing l ≡ true). let q = nothing-stands l in let z : ◌≡◌ {A = ℕ} 0 1 = cc in absurd (omega arith)) (λ p. p) (all_in nothing ls l h)

-- sets made of literals that contain each other are one
pub sets_same : (ls ms : List Literal) → set_of ls ⊆ set_of ms → set_of ms ⊆ set_of ls → set_of ls ≡ set_of ms
sets_same ls ms p q =
    set_same (set_of ls) (set_of ms) (plus_all_fits nothing ls nothing_fits) (plus_all_fits nothing ms nothing_fits) (λ l. both (stands (set_of ls) l) (stands (set_of ms) l) (p l) (q l))
  where
    both : (a b : Bool) → (a ≡ true → b ≡ true) → (b ≡ true → a ≡ true) → a ≡ b
    both true b f g = sym (f refl)
    both false true f g = g refl
    both false false f g = refl

-- two lists without a switch twice that have the same set are as long
pub same_length : (ls ms : List Literal) → distinct ls ≡ true → distinct ms ≡ true → set_of ls ≡ set_of ms → length ls ≡ length ms
same_length ls ms p q e =
    let a = count_free ls p in
    let b = count_free ms q in
    let f : free_count (set_of ls) ≡ free_count (set_of ms) = ap free_count e in
    omega arith
