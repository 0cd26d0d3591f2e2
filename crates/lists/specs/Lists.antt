-- Lists of literals.
--   mentioned      a switch is that of some literal
--   distinct       no switch twice
--   wrong_length   a list handed in is empty or too long
--   some_outside   a number handed in is that of no literal
--   switch_twice   two numbers handed in are those of one switch
--   read_checks    what is checked of a list of numbers, in order
--   literals_of    the literals that a `Literals` holds
--   ◌∈◌            a number is one of a list
--   Collects       a set has exactly the literals of these numbers
use Rattle.std.specs.Prelude.{◌≡◌, ℕ, Bool, true, false, not, ◌&&◌, ◌||◌, ◌⊎◌, List, [], ◌∷◌, length, ℤ, Decides, ◌==◌, nat_lt}
use Rattle.bounded.specs.Held.{held}
use Rattle.literals.specs.declared.literal.Literal.{Literal}
use Rattle.literals.specs.declared.setting.Setting.{Setting}
use Rattle.literals.specs.declared.refusal.Refusal.TheVariants.{OutOfRange, TermCount}
use Rattle.literals.specs.Literals.{number, size, no_literal}
use Rattle.literals.specs.Refusals.{Check, check}
use Rattle.literals.specs.Settings.{stands}
use Rattle.lists.specs.declared.held.Literals.{Literals}

infix 40 ◌∈◌
abbrev pub mentioned : List Literal → ℕ → Bool
mentioned [] n = false
mentioned (l ∷ ls) n = l.switch == n || mentioned ls n

abbrev pub distinct : List Literal → Bool
distinct [] = true
distinct (l ∷ ls) = not (mentioned ls l.switch) && distinct ls

-- a rule has 1 to 16 terms
abbrev pub wrong_length : {A : Type 0} → List A → Bool
wrong_length xs = nat_lt (length xs) 1 || nat_lt 16 (length xs)

abbrev pub some_outside : List ℤ → Bool
some_outside [] = false
some_outside (n ∷ ns) = no_literal n || some_outside ns

-- one of the numbers is of size k
abbrev pub sized : List ℤ → ℕ → Bool
sized [] k = false
sized (n ∷ ns) k = size n == k || sized ns k

abbrev pub switch_twice : List ℤ → Bool
switch_twice [] = false
switch_twice (n ∷ ns) = sized ns (size n) || switch_twice ns

abbrev pub read_checks : List ℤ → List Check
read_checks ns = check (wrong_length ns) TermCount ∷ check (some_outside ns) OutOfRange ∷ []

abbrev pub literals_of : Literals → List Literal
literals_of x = held x.items

abbrev pub ◌∈◌ : ℤ → List ℤ → Type 0
n ∈ [] = ⊥
n ∈ (m ∷ ms) = (n ≡ m) ⊎ (n ∈ ms)

abbrev pub Collects : List ℤ → Setting → Type 0
Collects ns s = (l : Literal) → Decides (stands s l) (number l ∈ ns)
