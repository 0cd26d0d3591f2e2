-- What telling a literal and taking literals back do to the told list.
--   free_checks   what is checked of a number before its literal joins a set
--   tell_checks   what is checked of a number before its literal is told
--   Appended      the literal of a number came at the end
--   back_checks   what is checked before the first n are left
use Rattle.std.specs.Prelude.{◌≡◌, ℕ, List, [], ◌∷◌, ◌++◌, length, ℤ, neg_ℤ, nat_lt}
use Rattle.literals.specs.declared.literal.Literal.{Literal}
use Rattle.literals.specs.declared.setting.Setting.{Setting}
use Rattle.literals.specs.declared.refusal.Refusal.TheVariants.{OutOfRange, Stands, OppositeStands, FewerTold}
use Rattle.literals.specs.Literals.{number, no_literal}
use Rattle.literals.specs.Refusals.{Check, check}
use Rattle.literals.specs.Settings.{stands_number, set_of}

abbrev pub free_checks : Setting → ℤ → List Check
free_checks s n = check (no_literal n) OutOfRange ∷ check (stands_number s n) Stands ∷ check (stands_number s (neg_ℤ n)) OppositeStands ∷ []

abbrev pub tell_checks : List Literal → ℤ → List Check
tell_checks told n = free_checks (set_of told) n

pub record Appended (before : List Literal) (n : ℤ) (after : List Literal) : Type 0 where
  pub literal : Literal
  pub is : number literal ≡ n
  pub end : after ≡ before ++ literal ∷ []

abbrev pub back_checks : List Literal → ℕ → List Check
back_checks told n = check (nat_lt (length told) n) FewerTold ∷ []
