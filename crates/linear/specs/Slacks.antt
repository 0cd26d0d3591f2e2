-- What a linear rule means, by its terms and its degree.
--   slack        the weights of all terms whose literal is not false, less the degree
--   broken       the slack is below 0
--   above        a literal is free and its weight above a number, which is not below 0
--   FirstAbove   the literal of the lowest switch of those
use Rattle.std.specs.Prelude.{◌≡◌, ℕ, ◌≤◌, Bool, true, false, not, ◌&&◌, List, ℤ, pos, ◌-ℤ◌, Some, None, Option, int_lt}
use Rattle.literals.specs.declared.literal.Literal.{Literal}
use Rattle.literals.specs.declared.setting.Setting.{Setting}
use Rattle.literals.specs.Settings.{free}
use Rattle.linear.specs.declared.term.Term.{Term}
use Rattle.linear.specs.Terms.{counted, weight_of}

abbrev pub slack : List Term → ℕ → Setting → ℤ
slack ts degree s = pos (counted s ts) -ℤ pos degree

abbrev pub broken : List Term → ℕ → Setting → Bool
broken ts degree s = int_lt (slack ts degree s) (pos 0)

abbrev pub above : List Term → ℤ → Setting → Literal → Bool
above ts z s l = not (int_lt z (pos 0)) && (free s l && int_lt z (pos (weight_of ts l)))

abbrev pub FirstAbove : List Term → ℤ → Setting → Option Literal → Type 0
FirstAbove ts z s None = (l : Literal) → above ts z s l ≡ false
FirstAbove ts z s (Some l) = (above ts z s l ≡ true) × ((k : Literal) → above ts z s k ≡ true → l.switch ≤ k.switch)
