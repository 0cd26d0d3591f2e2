-- What a rule that is being read holds.
--   Holds   it holds the first 17 terms of the rule stated so far, each in 16 bits
use Rattle.std.specs.Prelude.{◌≡◌, map, take}
use Rattle.bounded.specs.Held.{held}
use Rattle.stated.specs.declared.pending.Pending.{Pending}
use Rattle.stated.specs.Stated.{Stated, stated_weights, stated_switches, small_weight, small_switch}

pub record Holds (p : Pending) (s : Stated) : Type 0 where
  pub kind : p.kind ≡ s.kind
  pub bound : p.bound ≡ s.bound
  pub weights : held p.weights ≡ map small_weight (take 17 (stated_weights s))
  pub numbers : held p.numbers ≡ map small_switch (take 17 (stated_switches s))
