use Rattle.bounded.specs.Held.{held}
use Rattle.told.proofs.Trails.{joined, joined_set, joined_once}
use Rattle.told.proofs.trail.Trail.push.Goals as goal

pub invariant_of-self : goal.invariant_of-self
invariant_of-self g c =
    let t = c.args.self.now in
    let lit = g.T.Says.literal in
    let p = c.push.ensures in
    let after = held c.push.new.self in
    let ok = c.in_ok-check_free.ensures in
    record {
      agrees = joined_set lit (held t.items) after c.args.x c.literal-l.result t.set c.literal-l.ensures t.agrees t.once c.push.result p.room p.pushed ok c.with-self.result c.with-self.ensures.words;
      once = joined_once lit (held t.items) after c.args.x c.literal-l.result t.set c.literal-l.ensures t.agrees t.once c.push.result p.room p.pushed ok c.with-self.result c.with-self.ensures.words;
    }

pub returns-clause-pushed : goal.returns-clause-pushed
returns-clause-pushed g c =
    let t = c.args.self.now in
    let p = c.push.ensures in
    joined g.T.Says.literal (held t.items) (held c.push.new.self) c.args.x c.literal-l.result t.set c.literal-l.ensures t.agrees t.once c.push.result p.room p.pushed c.in_ok-check_free.ensures
