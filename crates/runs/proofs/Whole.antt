-- The laws over every list of calls.
use Rattle.std.proofs.Common.{List}
use Rattle.shelf.specs.Meanings.{Meaning, Lawful, Every}
use Rattle.runs.specs.Laws.{Laws}
use Rattle.runs.proofs.Onces.{one}
use Rattle.runs.proofs.Keeping.{run_keeps}
use Rattle.runs.proofs.Sureness.{every_sure, every_two_agree}
use Rattle.runs.proofs.Because.{because}

pub laws : (rules : List Meaning) → Every rules Lawful → Laws rules
laws rules lawful =
    record {
      one = one rules;
      sure = every_sure rules lawful;
      agree = every_two_agree rules lawful;
      because = λ es w run. because rules lawful (run_keeps rules run).trail;
    }
