use Rattle.std.proofs.Common.{◌≡◌, ◌+◌, ◌≤◌, List, length, vec_items, vec_len, vec_capacity, sym, refl, ◌∙◌, subst, arith}
use Rattle.shelf.specs.Meanings.{Meaning}
use Rattle.runs.specs.Laws.{Laws}
use Rattle.session.specs.Sessions.{seen}
use Rattle.script.specs.Plays.{Replayed}
use Rattle.script.proofs.Playing.{begun, played, finished}
use Rattle.script.proofs.replaying.replay.Goals as goal

pub loop-request-init : goal.loop-request-init
loop-request-init g c =
    let room = c.in_ok-answers.ensures in
    let opened = c.open-player.ensures in
    (refl, begun _ _ _ room.items opened.view, room.len, room.capacity, opened.hand, opened.sound)

pub loop-request-preserved : goal.loop-request-preserved
loop-request-preserved g c =
    let i = c.loop-request.invariant in
    let next = c.play-next.ensures in
    let push = c.push_reserved.ensures in
    let long : vec_len c.push_reserved.new.self ≡ c.loop-request.request-index + 1 = omega (arith, push.len, i.2) in
    let room : length c.args.requests.now ≤ vec_capacity c.push_reserved.new.self = omega (arith, push.capacity, i.3) in
    (next.rules ∙ i.0, played _ _ c.args.requests.now _ _ c.loop-request.request-index _ _ _ _ _ i.0 c.loop-request-test.true refl push.items i.1 next.plays, long, room, next.hand, next.sound)

pub returns : goal.returns
returns g c =
    let i = c.loop-request.invariant in
    let opened = c.open-player.ensures in
    let rules = opened.rules in
    let laws : Laws (g.S.Shelf.rules c.args.shelf) = opened.laws in
    let t = finished _ c.args.requests.now _ c.loop-request.request-index _ c.loop-request-test.false i.1 (subst Laws (sym rules) laws).sure in
    record {
      sound = i.5;
      rules = i.0 ∙ rules;
      replayed = subst (λ (ms : List Meaning). Replayed ms c.args.requests.now (vec_items c.loop-request.answers) (seen c.loop-request.player.session)) rules t;
      laws = laws;
      hand = i.4;
    }
