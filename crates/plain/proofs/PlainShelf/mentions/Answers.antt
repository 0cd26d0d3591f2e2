use Rattle.std.proofs.Common.{sym, ◌∙◌, arith}
use Rattle.std.proofs.lemmas.Bool.{ltb-true, ltb-false}
use Rattle.shelf.proofs.Caps.{mention_passed}
use Rattle.plain.proofs.Limits.{mentions_over, mentions_under, count_under}
use Rattle.plain.proofs.PlainShelf.mentions.Goals as goal

pub returns-then-is_over-clause-is : goal.returns-then-is_over-clause-is
returns-then-is_over-clause-is g c =
    let there = mention_passed _ c.args.rule c.args.switch c.in_ok-check_mention.ensures in
    mentions_over g.R.Rule.breaks g.R.Rule.mentions c.args.self.now.records.now c.args.rule c.args.switch (ltb-true _ _ (sym c.is_over.ensures ∙ c.if-is_over.true)) there.0 there.1

pub returns-clause-is : goal.returns-clause-is
returns-clause-is g c =
    let m = g.R.Rule in
    let rs = c.args.self.now.records.now in
    let few = ltb-false _ _ (sym c.is_over.ensures ∙ c.if-is_over.false) in
    let there = mention_passed _ c.args.rule c.args.switch c.in_ok-check_mention.ensures in
    mentions_under m.breaks m.mentions rs c.args.rule c.args.switch c.index-self-rule.result c.mentions_switch.result few there.0
    (omega (arith, there.1, count_under m.breaks m.mentions rs few)) c.mentions_switch.ensures
