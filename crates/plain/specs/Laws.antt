-- The laws of a plain shelf.
use Rattle.std.specs.Prelude.{ℕ, Bool, List, map, length, ◌≤◌}
use Rattle.literals.specs.declared.setting.Setting.{Setting}
use Rattle.rules.specs.Rules.{Grows, Ignores}
use Rattle.shelf.specs.Meanings.{Every, Lawful}
use Rattle.shelf.proofs.Caps.{capped_few, capped_lawful}
use Rattle.shelf.proofs.Lists.{every_map}
use Rattle.plain.specs.Plains.{plain_letter, meaning, plain_rules}

module _ {R : Type 0} (breaks : R → Setting → Bool) (mentions : R → ℕ → Bool) (records : List R) where
  pub plain_few : length (plain_rules breaks mentions records) ≤ 1024
  plain_few = capped_few plain_letter (map (meaning breaks mentions) records)

  pub plain_lawful : ((r : R) → Grows (breaks r)) → ((r : R) → Ignores (mentions r) (breaks r)) → Every (plain_rules breaks mentions records) Lawful
  plain_lawful p q = capped_lawful plain_letter _ (every_map (meaning breaks mentions) records Lawful (λ x. record { grows = p x; ignores = q x }))
