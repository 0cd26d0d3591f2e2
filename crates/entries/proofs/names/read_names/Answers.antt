use Rattle.std.proofs.Common.{◌≡◌, map, rules}
use Rattle.lines.specs.Fields.{fields_of}
use Rattle.entries.specs.Columns.{name_of}
use Rattle.entries.proofs.Columns.{names_apart}
use Rattle.entries.proofs.names.read_names.Goals as goal

pub returns-then-not-all_differ : goal.returns-then-not-all_differ
returns-then-not-all_differ c =
    let e : fields_of c.args.line.now ≡ map name_of c.in_ok-columns.columns = search rules in
    names_apart _ _ (λ a. let off = c.if-not-all_differ.ensures.1 (search (rules, a)) in cc) e
