use Rattle.std.proofs.Common.{◌≡◌, ℤ, sym, ap, ◌∙◌, w32, to_z, of_z, rules}
use Rattle.literals.specs.declared.setting.Setting.{Setting}
use Rattle.literals.specs.Refusals.{first_failed}
use Rattle.literals.specs.Settings.{taken_checks}
use Rattle.runs.specs.Views.{standing}
use Rattle.told.specs.Trails.{items_of}
use Rattle.told.proofs.Telling.{free_by}
use Rattle.session.proofs.log.Log.check_free.Goals as goal

pub returns : goal.returns
returns c =
    let e = c.in_ok-literal.ensures in
    let m : ℤ = to_z w32 (of_z w32 c.args.n) in
    let is : m ≡ c.args.n = search rules in
    let l = c.in_ok-literal.literal in
    let s = standing (items_of c.args.self.now.trail) in
    c.check_free.ensures ∙ ap (λ (t : Setting). first_failed (taken_checks t l)) c.set.ensures ∙ sym (free_by l m c.args.n s is e.literal e.refused)
