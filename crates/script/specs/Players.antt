-- A player, as clauses see it, and what it holds.
--   Player   a session with its receipt, where one is out
--   Hand     a receipt is held exactly where a clash stands, and it is of that clash
--   given    what a settle gives to hold
use Rattle.std.specs.Prelude.{Some, None, Option}
use Rattle.std.proofs.Props.{props}
use Rattle.runs.specs.Views.{View}
use Rattle.session.specs.declared.receipt.Outcome.{Outcome}
use Rattle.session.specs.declared.receipt.Outcome.TheVariants.{Quiet, Clash}
use Rattle.session.specs.declared.receipt.Receipt.{Receipt}
use Rattle.session.specs.Sessions.{Session}
use Rattle.script.specs.Plays.{Out, NoneOut}

pub record Player (S : Type 0) : Type 0 where
  pub session : Session S
  pub held : Option Receipt

abbrev pub Hand : View → Option Receipt → Type 0
Hand v None = NoneOut v
Hand v (Some x) = Out v x.clash

pub Hand-prop : (v : View) (h : Option Receipt) → IsProp (Hand v h)
Hand-prop v None = hlevel props
Hand-prop v (Some x) = hlevel props

abbrev pub given : Outcome → Option Receipt
given (Quiet n) = None
given (Clash x) = Some x
