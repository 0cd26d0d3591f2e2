use Rattle.std.proofs.Common.{◌≡◌, ℕ, ◌-◌, ◌*◌, ◌%◌, ◌^◌, ap, ◌∙◌, arith, rules}
use lib.Bits.{bit_and}
use Rattle.std.proofs.lemmas.Nat.{one_shl}
use Rattle.literals.specs.declared.setting.Setting.{Setting}
use Rattle.literals.specs.Settings.{stands, side_word}
use Rattle.literals.proofs.Standing.{side_minus, stands-minus}
use Rattle.literals.proofs.setting.Setting.without.Goals as goal

pub returns : goal.returns
returns c =
    let s = c.args.self in
    let l = c.args.l in
    let bit : ℕ = 1 * 2 ^ (l.switch - 1) % 2 ^ 64 in
    let step : c.changed.ensures.0 ≡ bit_and (side_word s l) ((2 ^ 64 - 1) - bit) = search rules in
    let e = c.changed.ensures.2 ∙ side_minus s l c.changed.ensures.0 bit (one_shl (l.switch - 1) 64 (omega (arith, l.range.0, l.range.1))) step in
    record { words = e; stands = λ m. ap (λ (t : Setting). stands t m) e ∙ stands-minus s l m }
