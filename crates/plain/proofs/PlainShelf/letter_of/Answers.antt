use Rattle.std.proofs.Common.{◌∙◌}
use Rattle.shelf.proofs.Caps.{rule_passed}
use Rattle.plain.proofs.Limits.{letters}
use Rattle.plain.proofs.PlainShelf.letter_of.Goals as goal

pub returns-clause-is : goal.returns-clause-is
returns-clause-is g c =
    let there = rule_passed _ c.args.rule c.in_ok-check_rule.ensures in
    let h = letters g.R.Rule.breaks g.R.Rule.mentions c.args.self.now.records.now c.args.rule there.0 there.1 in
    record { rule = h.rule; numbered = h.numbered; is = c.letter.ensures ∙ h.is }
