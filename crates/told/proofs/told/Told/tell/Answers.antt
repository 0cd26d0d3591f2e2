use Rattle.std.proofs.Common.{◌≡◌, ℤ, map, sym, ap, ◌∙◌, w16, to_z, of_z, rules}
use Rattle.std.proofs.lemmas.List.{map-id}
use Rattle.literals.specs.declared.literal.Literal.{Literal}
use Rattle.literals.specs.Settings.{set_of}
use Rattle.told.specs.declared.told.Told.{Told}
use Rattle.told.specs.declared.trail.Trail.{Trail}
use Rattle.told.specs.Lists.{told_of}
use Rattle.told.proofs.Telling.{tell_by, appended}
use Rattle.told.proofs.told.Told.tell.Goals as goal

pub returns : goal.returns
returns c =
    let t = c.args.self.now in
    let l = c.in_ok-l.l in
    let e = c.in_ok-l.ensures in
    let m : ℤ = to_z w16 (of_z w16 c.args.n) in
    let is : m ≡ c.args.n = search rules in
    let said = map (λ (k : Literal). k) (told_of t) in
    let whole : Trail Literal _ → Told = λ u. record { trail = u } in
    let same = ap set_of (map-id (told_of t)) in
    record {
      refused = c.push.ensures.refused ∙ sym (tell_by (told_of t) l m c.args.n (set_of said) is e.literal same e.refused);
      told = appended (told_of t) _ l c.args.n c.push.result (e.literal ∙ is) (ap whole) c.push.ensures.pushed;
    }
