use Rattle.session.specs.Logs.{view_of}
use Rattle.session.proofs.Ties.{traced}
use Rattle.session.proofs.session.Session.why.Goals as goal

pub explain-requires : goal.explain-requires
explain-requires g c = record { trail = traced _ (view_of c.self.inside.tied.log) _ ∣ c.self.invariant.reached ∣₁ c.as_slice.ensures }
