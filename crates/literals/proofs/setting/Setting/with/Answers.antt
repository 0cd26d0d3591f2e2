use Rattle.std.proofs.Common.{◌≡◌, ℕ, ◌-◌, ◌*◌, ◌%◌, ◌^◌, ap, ◌∙◌, arith, rules}
use lib.Bits.{bit_or}
use Rattle.std.proofs.lemmas.Nat.{one_shl}
use Rattle.literals.specs.declared.setting.Setting.{Setting}
use Rattle.literals.specs.Settings.{stands, side_word}
use Rattle.literals.proofs.Standing.{side_plus, stands-plus}
use Rattle.literals.proofs.setting.Setting.with.Goals as goal

pub returns : goal.returns
returns c =
    let s = c.args.self in
    let l = c.args.l in
    let bit : ℕ = 1 * 2 ^ (l.switch - 1) % 2 ^ 64 in
    let step : c.changed.ensures.0 ≡ bit_or (side_word s l) bit = search rules in
    let e = c.changed.ensures.2 ∙ side_plus s l c.changed.ensures.0 bit (one_shl (l.switch - 1) 64 (omega (arith, l.range.0, l.range.1))) step in
    record { words = e; stands = λ m. ap (λ (t : Setting). stands t m) e ∙ stands-plus s l m }
