use Rattle.std.proofs.Common.{◌≡◌, ◌≤◌, length, take, vec_items, vec_len, vec_capacity}
use Rattle.session.specs.Logs.{Sound}
use Rattle.session.specs.Sessions.{seen}
use Rattle.script.specs.Players.{Hand}
use Rattle.script.proofs.Playing.{SoFar}
use Rattle.script.proofs.replaying.replay.Given as goal

abbrev pub invariant-loop-request : goal.invariant-loop-request
invariant-loop-request g l =
    let m = g.S.Shelf in
    (m.rules l.player.session.tied.shelf ≡ m.rules l.initial.player.session.tied.shelf)
    × SoFar (m.rules l.initial.player.session.tied.shelf) (take l.request-index l.requests) (vec_items l.answers) (seen l.player.session)
    × (vec_len l.answers ≡ l.request-index)
    × (length l.requests ≤ vec_capacity l.answers)
    × Hand (seen l.player.session) l.player.held
    × Sound (m.rules l.player.session.tied.shelf) (m.told l.player.session.tied.shelf) l.player.session.tied.log
