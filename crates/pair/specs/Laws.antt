-- The laws of a pair.
use Rattle.std.specs.Prelude.{◌≤◌, List, ◌++◌, length}
use Rattle.shelf.specs.Meanings.{Meaning, Every, Lawful}
use Rattle.shelf.proofs.Caps.{capped_few, capped_lawful}
use Rattle.shelf.proofs.Lists.{every_both}
use Rattle.pair.specs.Pairs.{pair_letter, pair_rules}

pub pair_few : (firsts seconds : List Meaning) → length (pair_rules firsts seconds) ≤ 1024
pair_few firsts seconds = capped_few pair_letter (firsts ++ seconds)

pub pair_lawful : (firsts seconds : List Meaning) → Every firsts Lawful → Every seconds Lawful → Every (pair_rules firsts seconds) Lawful
pair_lawful firsts seconds p q = capped_lawful pair_letter (firsts ++ seconds) (every_both firsts seconds Lawful p q)
