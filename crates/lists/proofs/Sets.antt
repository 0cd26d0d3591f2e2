-- The set of a list of literals over distinct switches: what stands in it, what is free, and how many switches it leaves free.
use Rattle.std.proofs.Common.{◌≡◌, ℕ, zero, suc, ◌+◌, ◌<◌, Bool, true, false, not, ◌&&◌, ◌||◌, eqb, List, [], ◌∷◌, ◌++◌, length, get_or, take, sym, refl, ap, ◌∙◌, ⊎_elim, arith}
use Rattle.std.specs.List.{All}
use Rattle.std.proofs.lemmas.List.{take_more}
use Rattle.std.proofs.lemmas.Bool.{false≢true, and_parts, and_from, and_left, cases_Bool, eqb-true, eqb-false, not-true, or_from, or_parts}
use Rattle.std.proofs.lemmas.Bool.Decides.{nat_tests}
use Rattle.std.proofs.lemmas.List.Elements.{All-nil, All-cons, All-head, All-tail}
use Rattle.literals.specs.declared.literal.Literal.{Literal}
use Rattle.literals.specs.declared.setting.Setting.{Setting}
use Rattle.literals.specs.Settings.{free, plus, nothing, plus_all, set_of, free_count}
use Rattle.literals.proofs.Freedom.{plus-free, plus_taken, free_count-plus, free_count-nothing, nothing-free}
use Rattle.lists.specs.Lists.{mentioned, distinct}
use Rattle.lists.proofs.Distinct.{mentioned-append}

-- ---- one literal more at the end

pub plus_all-push : (s : Setting) (ls : List Literal) (l : Literal) → plus_all s (ls ++ l ∷ []) ≡ plus (plus_all s ls) l
plus_all-push s [] l = refl
plus_all-push s (k ∷ ks) l = plus_all-push (plus s k) ks l

pub distinct_push : (ls : List Literal) (l : Literal) → distinct ls ≡ true → mentioned ls l.switch ≡ false → distinct (ls ++ l ∷ []) ≡ true
distinct_push [] l d h = refl
distinct_push (k ∷ ks) l d h =
    let once = and_parts (not (mentioned ks k.switch)) (distinct ks) d in
    let new = or_parts (eqb k.switch l.switch) (mentioned ks l.switch) h in
    and_from _ _ (ap not (mentioned-append ks (l ∷ []) k.switch ∙ or_from _ _ (not-true _ once.0) (or_from _ _ (turned k.switch l.switch new.0) refl)))
    (distinct_push ks l once.1 new.1)
  where
    turned : (a b : ℕ) → eqb a b ≡ false → eqb b a ≡ false
    turned a b e = grind (arith, nat_tests)

-- the last literal of a list over distinct switches is of a new switch
pub last_new : (ls : List Literal) (l : Literal) → distinct (ls ++ l ∷ []) ≡ true → mentioned ls l.switch ≡ false
last_new [] l d = refl
last_new (k ∷ ks) l d =
    let once = and_parts (not (mentioned (ks ++ l ∷ []) k.switch)) (distinct (ks ++ l ∷ [])) d in
    let both = or_parts (mentioned ks k.switch) (mentioned (l ∷ []) k.switch) (sym (mentioned-append ks (l ∷ []) k.switch) ∙ not-true _ once.0) in
    or_from _ _ (turned l.switch k.switch (or_parts (eqb l.switch k.switch) false both.1).0) (last_new ks l once.1)
  where
    turned : (a b : ℕ) → eqb a b ≡ false → eqb b a ≡ false
    turned a b e = grind (arith, nat_tests)

mentioned-take : (n k : ℕ) (ls : List Literal) → mentioned ls n ≡ false → mentioned (take k ls) n ≡ false
mentioned-take n zero ls h = refl
mentioned-take n (suc k) [] h = refl
mentioned-take n (suc k) (l ∷ ls) h = let both = or_parts (eqb l.switch n) (mentioned ls n) h in or_from _ _ both.0 (mentioned-take n k ls both.1)

pub distinct-take : (k : ℕ) (ls : List Literal) → distinct ls ≡ true → distinct (take k ls) ≡ true
distinct-take zero ls d = refl
distinct-take (suc k) [] d = refl
distinct-take (suc k) (l ∷ ls) d =
    let once = and_parts (not (mentioned ls l.switch)) (distinct ls) d in
    and_from _ _ (ap not (mentioned-take l.switch k ls (not-true _ once.0))) (distinct-take k ls once.1)

-- ---- what is free in the set

pub plus_all-free : (s : Setting) (ls : List Literal) (l : Literal) → free (plus_all s ls) l ≡ (free s l && not (mentioned ls l.switch))
plus_all-free s [] l = last (free s l)
  where
    last : (b : Bool) → b ≡ (b && true)
    last b = grind arith
plus_all-free s (k ∷ ks) l = plus_all-free (plus s k) ks l ∙ ⊎_elim here there (cases_Bool (eqb k.switch l.switch))
  where
    here : eqb k.switch l.switch ≡ true → (free (plus s k) l && not (mentioned ks l.switch)) ≡ (free s l && not (eqb k.switch l.switch || mentioned ks l.switch))
    here e =
        and_left _ _ (plus_taken s k l (sym (eqb-true _ _ e)))
        ∙ sym (ap (λ (b : Bool). free s l && not (b || mentioned ks l.switch)) e ∙ none (free s l))
      where
        none : (b : Bool) → (b && false) ≡ false
        none b = grind arith

    there : eqb k.switch l.switch ≡ false → (free (plus s k) l && not (mentioned ks l.switch)) ≡ (free s l && not (eqb k.switch l.switch || mentioned ks l.switch))
    there e =
        ap (λ (b : Bool). b && not (mentioned ks l.switch)) (plus-free s k l (λ d. eqb-false _ _ e (sym d)))
        ∙ ap (λ (b : Bool). free s l && not (b || mentioned ks l.switch)) (sym e)

-- a switch is free in the set exactly where no literal of the list is one of it
pub set_free : (ls : List Literal) (l : Literal) → free (set_of ls) l ≡ not (mentioned ls l.switch)
set_free ls l = plus_all-free nothing ls l ∙ ap (λ (b : Bool). b && not (mentioned ls l.switch)) (nothing-free l)

pub free_new : (ls : List Literal) (l : Literal) → free (set_of ls) l ≡ true → mentioned ls l.switch ≡ false
free_new ls l f = not-true _ (sym (set_free ls l) ∙ f)

pub new_free : (ls : List Literal) (l : Literal) → mentioned ls l.switch ≡ false → free (set_of ls) l ≡ true
new_free ls l h = set_free ls l ∙ ap not h

-- ---- a list looked through for a switch that comes twice, with the set of the literals before place i

module _ (ls : List Literal) (i : ℕ) (l : Literal) (seen : Setting) (lt : i < length ls) (is : l ≡ get_or ls i l) where
  one_more : take (i + 1) ls ≡ take i ls ++ l ∷ []
  one_more = take_more ls i l lt ∙ ap (λ (y : Literal). take i ls ++ y ∷ []) (sym is)

  pub twice_here : seen ≡ set_of (take i ls) → free seen l ≡ false → distinct ls ≡ false
  twice_here e f = not-true-is-false (distinct ls) (λ d.
      let new = last_new (take i ls) l (ap distinct (sym one_more) ∙ distinct-take (i + 1) ls d) in
      let z : true ≡ false = sym (new_free (take i ls) l new) ∙ ap (λ (s : Setting). free s l) (sym e) ∙ f in
      false≢true (sym z))
    where
      not-true-is-false : (b : Bool) → (b ≡ true → ⊥) → b ≡ false
      not-true-is-false true h = absurd (h refl)
      not-true-is-false false h = refl

  pub new_here : (grown : Setting) → distinct (take i ls) ≡ true → seen ≡ set_of (take i ls) → free seen l ≡ true → grown ≡ plus seen l
      → (distinct (take (i + 1) ls) ≡ true) × (grown ≡ set_of (take (i + 1) ls))
  new_here grown d e f g = (
    ap distinct one_more ∙ distinct_push (take i ls) l d (free_new (take i ls) l (ap (λ (s : Setting). free s l) (sym e) ∙ f)),
    g ∙ ap (λ (s : Setting). plus s l) e ∙ sym (plus_all-push nothing (take i ls) l) ∙ ap set_of (sym one_more),
  )

-- ---- how many switches the list leaves free

count_from : (s : Setting) (ls : List Literal) → distinct ls ≡ true → All (λ l. free s l ≡ true) ls → length ls + free_count (plus_all s ls) ≡ free_count s
count_from s [] d f = omega arith
count_from s (l ∷ ls) d f =
    let once = and_parts (not (mentioned ls l.switch)) (distinct ls) d in
    let rest = count_from (plus s l) ls once.1 (still ls (not-true _ once.0) (All-tail (λ k. free s k ≡ true) l ls f)) in
    let one = free_count-plus s l (All-head (λ k. free s k ≡ true) l ls f) in
    omega arith
  where
    still : (ks : List Literal) → mentioned ks l.switch ≡ false → All (λ k. free s k ≡ true) ks → All (λ k. free (plus s l) k ≡ true) ks
    still [] h g = All-nil (λ k. free (plus s l) k ≡ true)
    still (k ∷ ks) h g =
        let both = or_parts (eqb k.switch l.switch) (mentioned ks l.switch) h in
        All-cons (λ m. free (plus s l) m ≡ true) k ks (plus-free s l k (eqb-false _ _ both.0) ∙ All-head (λ m. free s m ≡ true) k ks g)
        (still ks both.1 (All-tail (λ m. free s m ≡ true) k ks g))

-- each literal takes one of the 64 switches
pub count_free : (ls : List Literal) → distinct ls ≡ true → length ls + free_count (set_of ls) ≡ 64
count_free ls d = count_from nothing ls d (all_free ls) ∙ free_count-nothing
  where
    all_free : (ks : List Literal) → All (λ k. free nothing k ≡ true) ks
    all_free [] = All-nil (λ k. free nothing k ≡ true)
    all_free (k ∷ ks) = All-cons (λ m. free nothing m ≡ true) k ks (nothing-free k) (all_free ks)

pub room : (ls : List Literal) (l : Literal) → distinct ls ≡ true → free (set_of ls) l ≡ true → length ls < 64
room ls l d f = let a = count_free ls d in let b = free_count-plus (set_of ls) l f in omega arith
