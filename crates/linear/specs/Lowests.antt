-- A search for the lowest switch among the terms that pass a test.
--   passes     the term's literal is free and its weight above a number
--   improved   the literal of the lower switch, of the best so far and this term's
use Rattle.std.specs.Prelude.{Bool, true, cond, ◌&&◌, ℤ, pos, Some, None, Option, int_lt, nat_lt}
use Rattle.literals.specs.declared.literal.Literal.{Literal}
use Rattle.literals.specs.declared.setting.Setting.{Setting}
use Rattle.literals.specs.Settings.{free}
use Rattle.linear.specs.declared.term.Term.{Term}

abbrev pub passes : ℤ → Setting → Term → Bool
passes z s t = int_lt z (pos t.weight) && free s t.literal

abbrev pub lower : Literal → Option Literal → Bool
lower l None = true
lower l (Some b) = nat_lt l.switch b.switch

abbrev pub improved : (Term → Bool) → Option Literal → Term → Option Literal
improved p best t = cond (p t && lower t.literal best) (Some t.literal) best
