use Rattle.std.proofs.Common.{◌≡◌, ◌≤◌, Bool, false, cond, length, Some, None, sym, ap, arith}
use Rattle.std.proofs.lemmas.Bool.{or_from, le-ltb}
use Rattle.told.specs.Trails.{items_of}
use Rattle.literals.specs.declared.refusal.Refusal.TheVariants.{NoSuchPlace}
use Rattle.session.specs.Positions.{no_place}
use Rattle.session.proofs.Telling.{place_there}
use Rattle.session.proofs.session.Session.trail_place.Goals as goal

pub returns : goal.returns
returns g c =
    let t = items_of c.self.inside.tied.log.trail in
    let i = c.args.place in
    let low = c.if-place-lt1.false in
    let long = rw (← c.self.view_is) at c.trail_len.ensures in
    let high : c.args.place ≤ length (items_of c.self.inside.tied.log.trail) = omega (arith, c.if-place-trail_len.false, long) in
    let there : no_place t i ≡ false = or_from _ _ (le-ltb i 1 low) (le-ltb (length t) i high) in
    rw (← c.self.view_is)
    (record {
      refused = ap (λ (b : Bool). cond b (Some NoSuchPlace) None) (sym there);
      step = place_there t c.as_slice.result.now i c.index-as_slice-place.result c.as_slice.ensures low high c.index-as_slice-place.is;
    })
