use Rattle.std.proofs.Common.{refl, ◌∙◌}
use Rattle.rules.specs.declared.Verdict.TheVariants.{Quiet, Broken, Forced}
use Rattle.runs.specs.declared.calls.State.TheVariants.{Settled, Clashed}
use Rattle.session.proofs.Settling.{again, asked, ran_quiet, ran_broken}
use Rattle.session.proofs.tied.Tied.settle.Goals as goal

pub returns-in-Quiet-clause-ran : goal.returns-in-Quiet-clause-ran
returns-in-Quiet-clause-ran g c =
    let i = c.loop-self.invariant in
    let x = c.loop-self.self in
    ran_quiet _ _ x.log (record x.log { state = Settled }) i.1 (asked _ _ _ _ Quiet i.2 i.0 c.in-Quiet.ensures) refl refl refl

pub returns-in-Broken-clause-ran : goal.returns-in-Broken-clause-ran
returns-in-Broken-clause-ran g c =
    let i = c.loop-self.invariant in
    let x = c.loop-self.self in
    ran_broken _ _ x.log (record x.log { state = Clashed c.in-Broken.rule }) c.in-Broken.rule i.1 (asked _ _ _ _ (Broken c.in-Broken.rule) i.2 i.0 c.in-Broken.ensures) refl refl refl

pub loop-self-preserved : goal.loop-self-preserved
loop-self-preserved g c =
    let i = c.loop-self.invariant in
    let x = c.loop-self.self in
    let put = c.put.ensures in
    let r = c.in-Forced.rule in
    let l = c.in-Forced.literal in
    (put.rules ∙ i.0, again _ _ x.log _ r l i.1 (asked _ _ _ _ (Forced r l) i.2 i.0 c.in-Forced.ensures) put.steps put.level, put.told)
