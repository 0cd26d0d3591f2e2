use Rattle.std.proofs.Common.{true, false, arith}
use Rattle.std.proofs.lemmas.Bool.Decides.{Decides-eqb}
use Rattle.literals.proofs.Standing.{within_words, words_within}
use Rattle.literals.proofs.setting.Setting.contains.Goals as goal

pub returns-then-self-other : goal.returns-then-self-other
returns-then-self-other c =
    let s = c.args.other.now in
    let t = c.args.self.now in (
      λ e. within_words s t c.if-self-other.true ((Decides-eqb _ _).0 e),
      λ h. (Decides-eqb _ _).1 (words_within s t false (omega arith) (omega arith) h),
    )

pub returns-else-self-other : goal.returns-else-self-other
returns-else-self-other c =
    let s = c.args.other.now in
    let t = c.args.self.now in (
      λ e. absurd (c.if-self-other.false ((Decides-eqb _ _).0 e)),
      λ h. (Decides-eqb _ _).1 (words_within s t true (omega arith) (omega arith) h),
    )
