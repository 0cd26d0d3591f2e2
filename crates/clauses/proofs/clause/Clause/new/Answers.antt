use Rattle.std.proofs.Common.{Bool, true, false, cond, [], ◌∷◌, Some, None, sym, ap, ◌∙◌}
use Rattle.literals.specs.declared.refusal.Refusal.TheVariants.{SwitchTwice}
use Rattle.literals.specs.Refusals.{check}
use Rattle.literals.proofs.Refused.{passed_before}
use Rattle.lists.specs.Lists.{literals_of, read_checks, switch_twice}
use Rattle.lists.proofs.Distinct.{twice_read}
use Rattle.clauses.proofs.clause.Clause.new.Goals as goal

pub returns-then-switch_twice : goal.returns-then-switch_twice
returns-then-switch_twice c =
    let ns = c.args.numbers.now in
    let read = c.in_ok-literals.ensures in
    let twice = twice_read (literals_of c.in_ok-literals.literals) c.as_slice.result.now ns true read.literals c.as_slice.ensures.value c.if-switch_twice.ensures in
    record {
      refused = sym (passed_before (read_checks ns) (check (switch_twice ns) SwitchTwice ∷ []) read.refused ∙ ap (λ (b : Bool). cond b (Some SwitchTwice) None) twice);
      literals = tt;
    }

pub returns : goal.returns
returns c =
    let ns = c.args.numbers.now in
    let read = c.in_ok-literals.ensures in
    let twice = twice_read (literals_of c.in_ok-literals.literals) c.as_slice.result.now ns false read.literals c.as_slice.ensures.value c.if-switch_twice.ensures in
    record {
      refused = sym (passed_before (read_checks ns) (check (switch_twice ns) SwitchTwice ∷ []) read.refused ∙ ap (λ (b : Bool). cond b (Some SwitchTwice) None) twice);
      literals = read.literals;
    }
