use Rattle.std.proofs.Common.{◌≡◌, false, sym, ap, ◌∙◌}
use Rattle.std.proofs.lemmas.Bool.{and_left}
use Rattle.std.proofs.lemmas.Bool.Decides.{Decides-at}
use Rattle.literals.specs.declared.setting.Setting.{Setting}
use Rattle.literals.specs.Settings.{plus}
use Rattle.clauses.specs.Clauses.{all_false, alone, literals_in}
use Rattle.clauses.specs.Openness.{alone_broken, alone_free}
use Rattle.clauses.proofs.Forcing.{decides_alone}
use Rattle.clauses.proofs.clause.rule.ClauseRule.forces.Goals as goal
use Rattle.clauses.proofs.clause.rule.ClauseRule.forces.Goals.{then-is_broken-via-then-is_broken, then-is_broken-via-else-is_broken+then-not-is_free}

pub returns-then-is_broken : goal.returns-then-is_broken
returns-then-is_broken c =
    let s = c.args.set.now in
    let ls = literals_in c.args.self.now in
    let e : false ≡ alone ls s c.args.l =
    elim c.then-is_broken.branch [
      | then-is_broken-via-then-is_broken w ↦ sym (alone_broken s ls c.args.l (sym w.if-is_broken.ensures))
      | then-is_broken-via-else-is_broken+then-not-is_free w ↦ sym (and_left _ _ (sym w.if-not-is_free.ensures))
    ] in
    record { forces = Decides-at false (alone ls s c.args.l) e (decides_alone s ls c.args.l); alone = e }

pub returns : goal.returns
returns c =
    let s = c.args.set.now in
    let l = c.args.l in
    let ls = literals_in c.args.self.now in
    let e = c.is_broken-2.ensures ∙ ap (λ (t : Setting). all_false t ls) (c.with.ensures.words ∙ ap (plus s) c.opposite.ensures)
    ∙ alone_free s ls l (sym c.if-is_broken.ensures) (sym c.if-not-is_free.ensures) in
    record { forces = Decides-at _ (alone ls s l) e (decides_alone s ls l); alone = e }
