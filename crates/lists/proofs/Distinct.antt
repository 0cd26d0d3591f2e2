-- The switches that a list mentions, and that none comes twice: the steps of the loops that look for them.
use Rattle.std.proofs.Common.{◌≡◌, ℕ, ◌+◌, ◌-◌, ◌<◌, Bool, true, false, not, ◌&&◌, ◌||◌, eqb, List, [], ◌∷◌, ◌++◌, map, length, get_or, take, drop, ℤ, neg_ℤ, sym, refl, ap, ◌∙◌, ap₂, arith, length-drop, take_all}
use Rattle.std.specs.List.{list_any}
use Rattle.std.proofs.lemmas.List.{take_more, at_drop_more, length-map}
use Rattle.std.proofs.lemmas.Bool.{not-false}
use Rattle.literals.specs.declared.literal.Literal.{Literal}
use Rattle.literals.specs.Literals.{number, size, opposite}
use Rattle.literals.proofs.Known.{number_size, number-opposite}
use Rattle.lists.specs.Lists.{mentioned, distinct, sized, switch_twice}

pub mentioned-append : (xs ys : List Literal) (n : ℕ) → mentioned (xs ++ ys) n ≡ (mentioned xs n || mentioned ys n)
mentioned-append [] ys n = refl
mentioned-append (x ∷ xs) ys n = ap (λ (b : Bool). eqb x.switch n || b) (mentioned-append xs ys n) ∙ assoc (eqb x.switch n) _ _
  where
    assoc : (a b c : Bool) → (a || (b || c)) ≡ ((a || b) || c)
    assoc a b c = grind arith

-- the code's test
pub any_mentioned : (ls : List Literal) (n : ℕ) → list_any (λ (l : Literal). eqb l.switch n) ls ≡ mentioned ls n
any_mentioned [] n = refl
any_mentioned (l ∷ ls) n = ap (λ (b : Bool). eqb l.switch n || b) (any_mentioned ls n)

pub mentioned_more : (ls : List Literal) (n i : ℕ) (l : Literal) → i < length ls → l ≡ get_or ls i l
    → mentioned (take (i + 1) ls) n ≡ (mentioned (take i ls) n || eqb l.switch n)
mentioned_more ls n i l lt is =
    let e : take (i + 1) ls ≡ take i ls ++ (l ∷ []) = take_more ls i l lt ∙ ap (λ (y : Literal). take i ls ++ (y ∷ [])) (sym is) in
    ap (λ (xs : List Literal). mentioned xs n) e ∙ mentioned-append (take i ls) (l ∷ []) n ∙ ap (λ (b : Bool). mentioned (take i ls) n || b) (or_false (eqb l.switch n))
  where
    or_false : (a : Bool) → (a || false) ≡ a
    or_false a = grind arith

-- what is left of a list, with its first literal looked for in the rest
pub distinct_more : (ls : List Literal) (i n : ℕ) (l : Literal) (r : Bool) → i < length ls → l ≡ get_or ls i l → n ≡ l.switch
    → r ≡ mentioned (take (length ls - (i + 1)) (drop (i + 1) ls)) n → distinct (drop i ls) ≡ (not r && distinct (drop (i + 1) ls))
distinct_more ls i n l r lt is m e =
    let rest : take (length ls - (i + 1)) (drop (i + 1) ls) ≡ drop (i + 1) ls = take_all _ _ (omega (arith, length-drop (i + 1) ls)) in
    let here : r ≡ mentioned (drop (i + 1) ls) (get_or ls i l).switch = e ∙ ap₂ (λ (xs : List Literal) (k : ℕ). mentioned xs k) rest (m ∙ ap (λ (x : Literal). x.switch) is) in
    at_drop_more distinct ls i l lt ∙ ap (λ (b : Bool). not b && distinct (drop (i + 1) ls)) (sym here)

-- ---- the same, of the numbers of the literals

sized_numbers : (ls : List Literal) (n : ℕ) → sized (map number ls) n ≡ mentioned ls n
sized_numbers [] n = refl
sized_numbers (l ∷ ls) n = ap₂ (λ (k : ℕ) (b : Bool). eqb k n || b) (number_size l) (sized_numbers ls n)

pub twice_numbers : (ls : List Literal) → switch_twice (map number ls) ≡ not (distinct ls)
twice_numbers [] = refl
twice_numbers (l ∷ ls) =
    ap₂ (λ (a b : Bool). a || b) (sized_numbers ls (size (number l)) ∙ ap (mentioned ls) (number_size l)) (twice_numbers ls)
    ∙ not_both (mentioned ls l.switch) (distinct ls)
  where
    not_both : (a b : Bool) → (a || not b) ≡ not (not a && b)
    not_both a b = grind arith

-- ---- literals that were read from their numbers

pub read_distinct : (ls : List Literal) (ns : List ℤ) → map number ls ≡ ns → switch_twice ns ≡ false → distinct ls ≡ true
read_distinct ls ns e h = not-false _ (sym (twice_numbers ls) ∙ ap switch_twice e ∙ h)

mentioned_opposites : (ls : List Literal) (n : ℕ) → mentioned (map opposite ls) n ≡ mentioned ls n
mentioned_opposites [] n = refl
mentioned_opposites (l ∷ ls) n = ap (λ (b : Bool). eqb l.switch n || b) (mentioned_opposites ls n)

pub distinct_opposites : (ls : List Literal) → distinct (map opposite ls) ≡ distinct ls
distinct_opposites [] = refl
distinct_opposites (l ∷ ls) = ap₂ (λ (a b : Bool). not a && b) (mentioned_opposites ls l.switch) (distinct_opposites ls)

pub numbers_opposites : (ls : List Literal) → map number (map opposite ls) ≡ map neg_ℤ (map number ls)
numbers_opposites [] = refl
numbers_opposites (l ∷ ls) = ap₂ (λ (n : ℤ) (ns : List ℤ). n ∷ ns) (number-opposite l) (numbers_opposites ls)

-- whether a switch comes twice, as the code finds it in the literals
pub twice_read : (ls xs : List Literal) (ns : List ℤ) (b : Bool) → map number ls ≡ ns → xs ≡ ls → b ≡ not (distinct xs) → switch_twice ns ≡ b
twice_read ls xs ns b e f g = ap switch_twice (sym e) ∙ twice_numbers ls ∙ ap (λ (ys : List Literal). not (distinct ys)) (sym f) ∙ sym g

-- literals that were read are as many as their numbers
pub read_long : (ls : List Literal) (ns : List ℤ) → map number ls ≡ ns → length ns ≡ length ls
read_long ls ns e = ap length (sym e) ∙ length-map ls number
