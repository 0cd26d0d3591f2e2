use Rattle.std.proofs.Common.{SFits, refl, w32, rules}
use Rattle.std.proofs.lemmas.Int.{to_z-of_z}
use Rattle.runs.specs.Calls.{clash}
use Rattle.script.specs.Plays.{called, passed}
use Rattle.script.proofs.player.playing.call.Goals as goal

pub returns-in-None-clause-plays : goal.returns-in-None-clause-plays
returns-in-None-clause-plays g c = rw (c.in-Settle.is, c.after_settle.ensures.answer) (called (clash 0 0) (λ w. absurd w) c.settle.ensures.does)

pub returns-in-Err-clause-plays : goal.returns-in-Err-clause-plays
returns-in-Err-clause-plays g c = rw c.in-Settle.is (called (clash 0 0) (λ w. absurd w) c.in-Err.ensures.does)

pub returns-in-Choose-clause-plays : goal.returns-in-Choose-clause-plays
returns-in-Choose-clause-plays g c =
    let fits : SFits w32 c.in-Choose.n = search rules in
    rw (c.in-Choose.is, c.done.ensures) (called (clash 0 0) (λ w. absurd w) (simp to_z-of_z at c.choose.ensures.does))

pub returns-in-Back-clause-plays : goal.returns-in-Back-clause-plays
returns-in-Back-clause-plays g c = rw (c.in-Back.is, c.done-in-Back.ensures) (called (clash 0 0) (λ w. absurd w) c.back.ensures.does)

pub returns-in-None-held-clause-plays : goal.returns-in-None-held-clause-plays
returns-in-None-held-clause-plays g c = rw c.in-BackFromClash.is (passed tt (rw c.in-None-held.is at c.requires.hand) refl)

pub returns-in-Some-held-clause-plays : goal.returns-in-Some-held-clause-plays
returns-in-Some-held-clause-plays g c =
    rw (c.in-BackFromClash.is, c.after_spend.ensures.answer)
    (called c.in-Some-held.receipt.clash (λ w. rw c.in-Some-held.is at c.requires.hand) c.back_from_clash.ensures.does)

pub returns-in-None-held-2-clause-plays : goal.returns-in-None-held-2-clause-plays
returns-in-None-held-2-clause-plays g c = rw c.in-Close.is (passed tt (rw c.in-None-held-2.is at c.requires.hand) refl)

pub returns-in-Some-held-2-clause-plays : goal.returns-in-Some-held-2-clause-plays
returns-in-Some-held-2-clause-plays g c =
    rw (c.in-Close.is, c.after_spend-in-Some-held-2.ensures.answer)
    (called c.in-Some-held-2.receipt.clash (λ w. rw c.in-Some-held-2.is at c.requires.hand) c.close.ensures.does)
