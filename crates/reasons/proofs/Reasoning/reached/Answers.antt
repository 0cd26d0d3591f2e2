use Rattle.std.proofs.Common.{◌≡◌, ◌∙◌, sym, refl}
use Rattle.literals.specs.Settings.{plus, nothing}
use Rattle.reasons.proofs.Reaching.{sought_first, sought_past, sought_chosen, sought_locked}
use Rattle.reasons.proofs.Reasoning.reached.Goals as goal

pub loop-left-init : goal.loop-left-init
loop-left-init g c =
    let marked : c.with-marked.result ≡ plus nothing c.index-self-place.result.literal = cc in
    sought_first c.args.self.now.once refl c.requires c.index-self-place.is marked c.new-chosen.ensures

pub loop-left-preserved-in-None : goal.loop-left-preserved-in-None
loop-left-preserved-in-None g c =
    sought_chosen c.args.self.now.once c.in-len1-up.len_at_least c.step-item.is c.loop-left.invariant c.with-chosen.ensures.words (sym c.stands.ensures ∙ c.if-stands.true) c.in-None.is

pub loop-left-preserved-in-Some : goal.loop-left-preserved-in-Some
loop-left-preserved-in-Some g c =
    sought_locked c.args.self.now.once c.in-len1-up.len_at_least c.step-item.is c.loop-left.invariant c.mark-marked.ensures (sym c.stands.ensures ∙ c.if-stands.true) c.in-Some.is

pub loop-left-preserved : goal.loop-left-preserved
loop-left-preserved g c =
    sought_past c.args.self.now.once c.in-len1-up.len_at_least c.step-item.is c.loop-left.invariant (sym c.stands.ensures ∙ c.if-stands.false)
