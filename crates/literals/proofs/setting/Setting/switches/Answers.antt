use Rattle.std.proofs.Common.{◌≡◌, ◌-◌, Bool, true, false, not, ◌||◌, refl, ◌∙◌}
use Rattle.bits.specs.Words.{bit}
use Rattle.bits.proofs.Bits.{bit-bit_or}
use Rattle.literals.proofs.setting.Setting.switches.Goals as goal

twice : (a b : Bool) → (a || b) ≡ not (not (a || b))
twice true b = refl
twice false true = refl
twice false false = refl

pub returns : goal.returns
returns c n =
    let s = c.args.self.now in
    bit-bit_or s.on s.off (n - 1) ∙ twice (bit s.on (n - 1)) (bit s.off (n - 1))
