use Rattle.std.proofs.Common.{map, sym, ap, ◌∙◌}
use Rattle.std.proofs.lemmas.List.{take-map}
use Rattle.literals.specs.Settings.{set_of}
use Rattle.bounded.specs.Held.{held}
use Rattle.lists.specs.Lists.{distinct}
use Rattle.lists.proofs.Sets.{distinct-take}
use Rattle.told.proofs.trail.Trail.truncate.Goals as goal

pub invariant_of-self : goal.invariant_of-self
invariant_of-self g c =
    let t = c.args.self.now in
    let lit = g.T.Says.literal in
    let e = c.truncate.ensures in
    record {
      agrees = c.set_of_first-self.ensures ∙ ap (λ ys. set_of (map lit ys)) (sym e);
      once = ap (λ ys. distinct (map lit ys)) e ∙ ap distinct (sym (take-map lit c.args.n (held t.items))) ∙ distinct-take c.args.n (map lit (held t.items)) t.once;
    }
