-- A number read as a literal.
use Rattle.std.specs.Prelude.{◌≡◌, ℤ, Some, None, Result, IfOk, if◌then◌else◌}
use Rattle.literals.specs.declared.literal.Literal.{Literal}
use Rattle.literals.specs.declared.refusal.Refusal.{Refusal}
use Rattle.literals.specs.declared.refusal.Refusal.TheVariants.{OutOfRange}
use Rattle.literals.specs.Literals.{number, no_literal}
use Rattle.literals.specs.Refusals.{refusal_of}

-- refused where the number is that of no literal, and else the literal of this number
pub record Reads (n : ℤ) (r : Result Literal Refusal) : Type 0 where
  pub refused : refusal_of r ≡ (if no_literal n then Some OutOfRange else None)
  pub literal : IfOk r (λ l. number l ≡ n)
