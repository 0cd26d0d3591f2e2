-- Linear rules: what is checked when one is made, and what it holds.
--   terms_of          its terms
--   terms_checks      what is checked of weights and literals
--   at_least_checks   and of a degree
--   at_most_checks    or of an at-most bound
--   rule_broken       the sets that break it
--   rule_mentions     the switches that it mentions
use Rattle.std.specs.Prelude.{ℕ, Bool, not, ◌||◌, List, [], ◌∷◌, ◌++◌, length, ℤ, sum, ◌==◌, nat_le, nat_lt}
use Rattle.bounded.specs.Held.{held}
use Rattle.literals.specs.declared.refusal.Refusal.TheVariants.{OutOfRange, TermCount, Weight, SwitchTwice, Degree}
use Rattle.literals.specs.declared.setting.Setting.{Setting}
use Rattle.literals.specs.Refusals.{Check, check}
use Rattle.lists.specs.Lists.{mentioned, wrong_length, some_outside, switch_twice}
use Rattle.linear.specs.declared.linear.Linear.{Linear}
use Rattle.linear.specs.declared.term.Term.{Term}
use Rattle.linear.specs.Terms.{literals, bad_weights}
use Rattle.linear.specs.Slacks.{broken}

abbrev pub terms_of : Linear → List Term
terms_of r = held r.terms.items

-- no terms, more than 16, or two lists of unequal length
abbrev pub wrong_count : List ℕ → List ℤ → Bool
wrong_count ws ns = not (length ws == length ns) || wrong_length ns

abbrev pub terms_checks : List ℕ → List ℤ → List Check
terms_checks ws ns =
    check (wrong_count ws ns) TermCount ∷ check (some_outside ns) OutOfRange ∷ check (bad_weights ws) Weight ∷ check (switch_twice ns) SwitchTwice ∷ []

-- a degree is 1 to 2,000,000
abbrev pub bad_degree : ℕ → Bool
bad_degree d = nat_lt d 1 || nat_lt 2000000 d

abbrev pub at_least_checks : List ℕ → List ℤ → ℕ → List Check
at_least_checks ws ns degree = terms_checks ws ns ++ check (bad_degree degree) Degree ∷ []

-- an at-most bound is below the sum of the weights
abbrev pub at_most_checks : List ℕ → List ℤ → ℕ → List Check
at_most_checks ws ns bound = terms_checks ws ns ++ check (nat_le (sum ws) bound) Degree ∷ []

abbrev pub rule_broken : Linear → Setting → Bool
rule_broken r s = broken (terms_of r) r.degree s

abbrev pub rule_mentions : Linear → ℕ → Bool
rule_mentions r n = mentioned (literals (terms_of r)) n
