-- Worked facts, in one table.
--   Says           what a rule has to say of a set
--   Fact           one fact
--   Holds          that it holds, by the definitions that the contracts of the code cite
--   worked_facts   the table
use Rattle.std.specs.Prelude.{◌≡◌, ℕ, ◌+◌, Bool, true, false, T, List, [], ◌∷◌, ℤ, pos, negsuc, Some, None, sum, Option, nat_le}
use Rattle.std.proofs.Common.{lit≤}
use Rattle.literals.specs.declared.literal.Literal.{Literal}
use Rattle.literals.specs.declared.refusal.Refusal.{Refusal}
use Rattle.literals.specs.declared.setting.Setting.{Setting}
use Rattle.literals.specs.Refusals.{first_failed, number_of}
use Rattle.literals.specs.Settings.{set_of}
use Rattle.linear.specs.declared.term.Term.{Term}
use Rattle.linear.specs.Linears.{at_most_checks}
use Rattle.linear.specs.Slacks.{slack, broken}
use Rattle.rules.specs.Rules.{First, Silent}

pub data Says : Type 0 where
  -- it is neither broken nor forces a literal
  nothing : Says
  -- it forces this literal first
  forces : Literal → Says
  -- it is broken
  breaks : Says

abbrev pub Said : (Setting → Bool) → Setting → Says → Type 0
Said B s nothing = Silent B s
Said B s (forces l) = First B s l
Said B s breaks = B s ≡ true

pub data Fact : Type 0 where
  -- a linear rule of these terms and this degree has, under the set of these literals, this slack, and this to say
  under : List Term → ℕ → List Literal → ℤ → Says → Fact
  -- an at-most bound on these weights and literals is taken and gives this degree
  gives : List ℕ → List ℤ → ℕ → ℕ → Fact
  -- an at-most bound on these weights and literals is refused by this number
  refused : List ℕ → List ℤ → ℕ → ℕ → Fact

-- 0 where nothing is refused
abbrev pub refusal_number : Option Refusal → ℕ
refusal_number None = 0
refusal_number (Some r) = number_of r

abbrev pub Holds : Fact → Type 0
Holds (under ts d ls z says) = (slack ts d (set_of ls) ≡ z) × Said (broken ts d) (set_of ls) says
Holds (gives ws ns b d) = (first_failed (at_most_checks ws ns b) ≡ None) × (d + b ≡ sum ws)
Holds (refused ws ns b k) = refusal_number (first_failed (at_most_checks ws ns b)) ≡ k

-- ---- the table

abbrev pub on : (n : ℕ) → T (nat_le 1 n) → T (nat_le n 64) → Literal
on n low high = record { switch = n; on = true; range = (lit≤ low, lit≤ high) }

abbrev pub off : (n : ℕ) → T (nat_le 1 n) → T (nat_le n 64) → Literal
off n low high = record { switch = n; on = false; range = (lit≤ low, lit≤ high) }

abbrev pub term : ℕ → Literal → Term
term w l = record { weight = w; literal = l }

-- the supply limit: loads of 20, 16, 16 and 12 on switches 1 to 4, at most 40, kept over the opposite literals
abbrev pub limit_terms : List Term
limit_terms = term 20 (off 1 tt tt) ∷ term 16 (off 2 tt tt) ∷ term 16 (off 3 tt tt) ∷ term 12 (off 4 tt tt) ∷ []

abbrev pub limit_degree : ℕ
limit_degree = 24

abbrev pub limit_weights : List ℕ
limit_weights = 20 ∷ 16 ∷ 16 ∷ 12 ∷ []

abbrev pub limit_numbers : List ℤ
limit_numbers = pos 1 ∷ pos 2 ∷ pos 3 ∷ pos 4 ∷ []

abbrev pub with_nothing_on_the_limit_has_slack_40_and_forces_nothing : Fact
with_nothing_on_the_limit_has_slack_40_and_forces_nothing = under limit_terms limit_degree [] (pos 40) nothing

abbrev pub with_4_on_it_has_slack_28_and_forces_nothing : Fact
with_4_on_it_has_slack_28_and_forces_nothing = under limit_terms limit_degree (on 4 tt tt ∷ []) (pos 28) nothing

abbrev pub with_4_and_1_on_it_has_slack_8_and_forces_2_off : Fact
with_4_and_1_on_it_has_slack_8_and_forces_2_off = under limit_terms limit_degree (on 4 tt tt ∷ on 1 tt tt ∷ []) (pos 8) (forces (off 2 tt tt))

abbrev pub with_2_and_3_on_it_has_slack_8_and_forces_1_off : Fact
with_2_and_3_on_it_has_slack_8_and_forces_1_off = under limit_terms limit_degree (on 2 tt tt ∷ on 3 tt tt ∷ []) (pos 8) (forces (off 1 tt tt))

abbrev pub with_1_2_and_4_on_it_has_slack_minus_8_and_is_broken : Fact
with_1_2_and_4_on_it_has_slack_minus_8_and_is_broken = under limit_terms limit_degree (on 1 tt tt ∷ on 2 tt tt ∷ on 4 tt tt ∷ []) (negsuc 7) breaks

abbrev pub a_weight_equal_to_the_degree_is_forced_at_the_start : Fact
a_weight_equal_to_the_degree_is_forced_at_the_start = under (term 5 (on 7 tt tt) ∷ []) 5 [] (pos 0) (forces (on 7 tt tt))

abbrev pub a_weight_below_the_degree_is_broken_at_the_start : Fact
a_weight_below_the_degree_is_broken_at_the_start = under (term 5 (on 7 tt tt) ∷ []) 6 [] (negsuc 0) breaks

abbrev pub weights_equal_to_the_slack_are_not_forced : Fact
weights_equal_to_the_slack_are_not_forced = under (term 3 (on 1 tt tt) ∷ term 3 (on 2 tt tt) ∷ []) 3 [] (pos 3) nothing

abbrev pub with_the_first_off_the_second_is_forced : Fact
with_the_first_off_the_second_is_forced = under (term 3 (on 1 tt tt) ∷ term 3 (on 2 tt tt) ∷ []) 3 (off 1 tt tt ∷ []) (pos 0) (forces (on 2 tt tt))

abbrev pub an_at_most_bound_of_63_gives_degree_1 : Fact
an_at_most_bound_of_63_gives_degree_1 = gives limit_weights limit_numbers 63 1

abbrev pub an_at_most_bound_of_64_is_refused_by_5 : Fact
an_at_most_bound_of_64_is_refused_by_5 = refused limit_weights limit_numbers 64 5

abbrev pub worked_facts : List Fact
worked_facts =
    with_nothing_on_the_limit_has_slack_40_and_forces_nothing
    ∷ with_4_on_it_has_slack_28_and_forces_nothing
    ∷ with_4_and_1_on_it_has_slack_8_and_forces_2_off
    ∷ with_2_and_3_on_it_has_slack_8_and_forces_1_off
    ∷ with_1_2_and_4_on_it_has_slack_minus_8_and_is_broken
    ∷ a_weight_equal_to_the_degree_is_forced_at_the_start
    ∷ a_weight_below_the_degree_is_broken_at_the_start
    ∷ weights_equal_to_the_slack_are_not_forced
    ∷ with_the_first_off_the_second_is_forced
    ∷ an_at_most_bound_of_63_gives_degree_1
    ∷ an_at_most_bound_of_64_is_refused_by_5
    ∷ []
