use Rattle.runs.specs.Views.{standing}
use Rattle.told.specs.Trails.{items_of}
use Rattle.told.proofs.Trails.{pushed_free}
use Rattle.session.proofs.log.Log.push.Goals as goal

pub returns-clause-steps : goal.returns-clause-steps
returns-clause-steps c =
    pushed_free _ _ (standing (items_of c.args.self.now.trail)) c.args.step.literal c.push.result c.requires c.push.ensures.refused c.push.ensures.pushed
