-- The rules of a plain shelf.
--   plain_letter   the letter p
--   meaning        what a record means on a plain shelf
--   plain_rules    its rules, or over 1,024 records the one rule that fails shut
use Rattle.std.specs.Prelude.{ℕ, Bool, List, map}
use Rattle.literals.specs.declared.setting.Setting.{Setting}
use Rattle.shelf.specs.Meanings.{Meaning, capped}

abbrev pub plain_letter : ℕ
plain_letter = 112

abbrev pub meaning : {R : Type 0} → (R → Setting → Bool) → (R → ℕ → Bool) → R → Meaning
meaning breaks mentions r = record { breaks = breaks r; mentions = mentions r; letter = plain_letter }

abbrev pub plain_rules : {R : Type 0} → (R → Setting → Bool) → (R → ℕ → Bool) → List R → List Meaning
plain_rules breaks mentions records = capped plain_letter (map (meaning breaks mentions) records)
