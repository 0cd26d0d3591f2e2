use Rattle.std.proofs.Common.{arith}
use Rattle.literals.proofs.Freedom.{ones-free}
use Rattle.literals.proofs.setting.Setting.free_count.Goals as goal

pub returns : goal.returns
returns c = ones-free c.args.self.now (omega arith) (omega arith)
