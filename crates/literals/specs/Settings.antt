-- Sets of literals, each two words: bit n - 1 of the one for literal n, of the other for -n.
--   stands         a literal is in the set (and its opposite is false there)
--   stands_number  the same, of a literal by its number
--   free           neither literal of a switch is in the set
--   nothing        the empty set
--   plus           the set with a literal added
--   minus          the set with a literal taken out
--   ◌⊆◌            a set is contained in another
--   set_of         the set of a list of literals
--   free_count     how many switches are free
--   taken_checks   what is checked of a literal before it joins a set
use Rattle.std.specs.Prelude.{◌≡◌, ℕ, ◌-◌, ◌^◌, Bool, true, cond, not, ◌&&◌, ◌||◌, List, [], ◌∷◌, length, ℤ, pos, negsuc, bit_and, bit_or}
use Rattle.bits.specs.Words.{bit, kept}
use Rattle.literals.specs.declared.literal.Literal.{Literal}
use Rattle.literals.specs.declared.setting.Setting.{Setting}
use Rattle.literals.specs.declared.refusal.Refusal.TheVariants.{Stands, OppositeStands}
use Rattle.literals.specs.Literals.{opposite}
use Rattle.literals.specs.Refusals.{Check, check}

infix 40 ◌⊆◌
unfoldable pub stands : Setting → Literal → Bool
stands s l = bit (cond l.on s.on s.off) (l.switch - 1)

abbrev pub free : Setting → Literal → Bool
free s l = not (stands s l) && not (stands s (opposite l))

unfoldable pub nothing : Setting
nothing = record { on = 0; off = 0 }

unfoldable pub plus : Setting → Literal → Setting
plus s l =
    record {
      on = cond l.on (bit_or s.on (2 ^ (l.switch - 1))) s.on;
      off = cond l.on s.off (bit_or s.off (2 ^ (l.switch - 1)));
    }

unfoldable pub minus : Setting → Literal → Setting
minus s l =
    record {
      on = cond l.on (bit_and s.on ((2 ^ 64 - 1) - 2 ^ (l.switch - 1))) s.on;
      off = cond l.on s.off (bit_and s.off ((2 ^ 64 - 1) - 2 ^ (l.switch - 1)));
    }

-- the literal of number n stands
unfoldable pub stands_number : Setting → ℤ → Bool
stands_number s (pos n) = bit s.on (n - 1)
stands_number s (negsuc n) = bit s.off n

-- every literal of s stands in t
abbrev pub ◌⊆◌ : Setting → Setting → Type 0
s ⊆ t = (l : Literal) → stands s l ≡ true → stands t l ≡ true

-- s with each literal of a list added
abbrev pub plus_all : Setting → List Literal → Setting
plus_all s [] = s
plus_all s (l ∷ ls) = plus_all (plus s l) ls

abbrev pub set_of : List Literal → Setting
set_of ls = plus_all nothing ls

-- switch n is free
abbrev pub free_switch : Setting → ℕ → Bool
free_switch s n = not (bit s.on (n - 1) || bit s.off (n - 1))

-- how many of the switches 1 to 64 are free
unfoldable pub free_count : Setting → ℕ
free_count s = length (kept (free_switch s) 1 64)

-- neither literal of the switch is in the set
abbrev pub taken_checks : Setting → Literal → List Check
taken_checks s l = check (stands s l) Stands ∷ check (stands s (opposite l)) OppositeStands ∷ []

-- the word of a literal's side
abbrev pub side_word : Setting → Literal → ℕ
side_word s l = cond l.on s.on s.off

-- the set with another word on a literal's side
abbrev pub with_word : Setting → Literal → ℕ → Setting
with_word s l w = record { on = cond l.on w s.on; off = cond l.on s.off w }
