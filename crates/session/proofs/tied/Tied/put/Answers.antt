use Rattle.std.proofs.Common.{◌≡◌, ℤ, sym, ◌∙◌, w16, to_z, of_z, rules}
use Rattle.told.specs.Trails.{items_of}
use Rattle.session.proofs.Settling.{put_told}
use Rattle.session.proofs.tied.Tied.put.Goals as goal

pub returns-clause-told : goal.returns-clause-told
returns-clause-told g c =
    let x = c.args.self.now in
    let told = c.tell.ensures in
    let m : ℤ = to_z w16 (of_z w16 c.from.result) in
    let is : m ≡ c.from.result = search rules in
    put_told _ (items_of x.log.trail) _ c.args.step _ _ m c.tell.result c.requires.told c.requires.free (sym (is ∙ c.from.ensures)) told.refused told.told c.push.ensures.steps
