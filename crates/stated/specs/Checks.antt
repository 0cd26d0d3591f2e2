-- What is checked of a rule that a rulebook states.
--   stated_clause_checks   what is checked of a clause, in order
--   rule_checks            what is checked of a rule, in order, by its kind
use Rattle.std.specs.Prelude.{ℕ, Bool, false, not, ◌||◌, List, [], ◌∷◌, ℤ, ◌==◌}
use Rattle.literals.specs.declared.refusal.Refusal.TheVariants.{OutOfRange, TermCount, Weight, SwitchTwice, Degree}
use Rattle.literals.specs.Refusals.{Check, check}
use Rattle.lists.specs.Lists.{wrong_length, some_outside, switch_twice}
use Rattle.linear.specs.Linears.{at_least_checks, at_most_checks}
use Rattle.entries.specs.declared.kind.RuleKind.{RuleKind}
use Rattle.entries.specs.declared.kind.RuleKind.TheVariants.{AtLeast, AtMost, Clause}
use Rattle.stated.specs.Stated.{Stated, stated_weights, stated_switches}

-- a weight is not 1
abbrev pub not_ones : List ℕ → Bool
not_ones [] = false
not_ones (w ∷ ws) = not (w == 1) || not_ones ws

-- all weights of a clause are 1, and so is its bound
abbrev pub stated_clause_checks : List ℕ → List ℤ → ℕ → List Check
stated_clause_checks ws ns bound =
    check (wrong_length ns) TermCount ∷ check (some_outside ns) OutOfRange ∷ check (not_ones ws) Weight ∷ check (switch_twice ns) SwitchTwice ∷ check (not (bound == 1)) Degree ∷ []

abbrev pub kind_checks : RuleKind → List ℕ → List ℤ → ℕ → List Check
kind_checks AtLeast ws ns bound = at_least_checks ws ns bound
kind_checks AtMost ws ns bound = at_most_checks ws ns bound
kind_checks Clause ws ns bound = stated_clause_checks ws ns bound

abbrev pub rule_checks : Stated → List Check
rule_checks s = kind_checks s.kind (stated_weights s) (stated_switches s) s.bound
