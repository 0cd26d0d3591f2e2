use Rattle.std.proofs.Common.{subst, sym, ◌∙◌}
use Rattle.std.proofs.lemmas.Bool.{ltb-true, ltb-false}
use Rattle.literals.specs.declared.setting.Setting.{Setting}
use Rattle.shelf.specs.Meanings.{Answers}
use Rattle.plain.specs.Plains.{plain_rules}
use Rattle.plain.proofs.Limits.{answers_over, answers_under}
use Rattle.plain.proofs.PlainShelf.ask.Goals as goal

pub returns-then-is_over : goal.returns-then-is_over
returns-then-is_over g c = answers_over g.R.Rule.breaks g.R.Rule.mentions c.args.self.now.records.now _ (ltb-true _ _ (sym c.is_over.ensures ∙ c.if-is_over.true))

pub returns : goal.returns
returns g c =
    let rs = c.args.self.now.records.now in
    let m = g.R.Rule in
    subst (λ (s : Setting). Answers (plain_rules m.breaks m.mentions rs) s c.scan.result) c.set.ensures
    (answers_under m.breaks m.mentions rs c.set.result.now c.scan.result (ltb-false _ _ (sym c.is_over.ensures ∙ c.if-is_over.false)) c.scan.ensures)
