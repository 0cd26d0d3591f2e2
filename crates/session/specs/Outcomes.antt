-- The answer that a call's result stands for.
use Rattle.std.specs.Prelude.{Ok, Err, Result}
use Rattle.literals.specs.declared.refusal.Refusal.{Refusal}
use Rattle.runs.specs.declared.calls.Reply.TheVariants as reply
use Rattle.runs.specs.Calls.{Answered}
use Rattle.session.specs.declared.receipt.Outcome.{Outcome}
use Rattle.session.specs.declared.receipt.Outcome.TheVariants.{Quiet, Clash}
use Rattle.session.specs.declared.receipt.Returned.{Returned}

abbrev pub done : Result (Unit {0}) Refusal → Answered
done (Ok _) = Ok reply.Done
done (Err e) = Err e

abbrev pub spent : Result (Unit {0}) Returned → Answered
spent (Ok _) = Ok reply.Done
spent (Err e) = Err e.refusal

abbrev pub settled : Result Outcome Refusal → Answered
settled (Ok (Quiet n)) = Ok (reply.Grown n)
settled (Ok (Clash r)) = Ok (reply.Clash r.clash r.letter)
settled (Err e) = Err e
