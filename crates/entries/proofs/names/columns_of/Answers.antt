use Rattle.std.proofs.Common.{rules}
use Rattle.entries.proofs.Columns.{names_read}
use Rattle.entries.proofs.names.columns_of.Goals as goal

pub returns : goal.returns
returns c = names_read _ (λ f k s. search rules) (λ f u p q s k. search rules) _ c.try_map.ensures.ok c.try_map.ensures.err
