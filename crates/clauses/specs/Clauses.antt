-- Clauses: what is checked when one is made, what it holds and what it means.
--   clause_checks     what is checked of the literals
--   literals_in       the literals of a clause
--   all_false         all literals of a list are false
--   alone             a literal is free, and the only one of a list that is not false
--   clause_broken     the sets that break a clause
--   clause_mentions   the switches that it mentions
use Rattle.std.specs.Prelude.{ℕ, Bool, true, false, ◌&&◌, ◌||◌, List, [], ◌∷◌, ◌++◌, ℤ}
use Rattle.literals.specs.declared.literal.Literal.{Literal}
use Rattle.literals.specs.declared.refusal.Refusal.TheVariants.{SwitchTwice}
use Rattle.literals.specs.declared.setting.Setting.{Setting}
use Rattle.literals.specs.Literals.{opposite, same}
use Rattle.literals.specs.Refusals.{Check, check}
use Rattle.literals.specs.Settings.{stands, free}
use Rattle.lists.specs.Lists.{literals_of, mentioned, read_checks, switch_twice}
use Rattle.clauses.specs.declared.clause.Clause.{Clause}

abbrev pub clause_checks : List ℤ → List Check
clause_checks ns = read_checks ns ++ check (switch_twice ns) SwitchTwice ∷ []

abbrev pub literals_in : Clause → List Literal
literals_in c = literals_of c.literals

abbrev pub all_false : Setting → List Literal → Bool
all_false s [] = true
all_false s (l ∷ ls) = stands s (opposite l) && all_false s ls

-- the literal is one of the list
abbrev pub has : List Literal → Literal → Bool
has [] l = false
has (k ∷ ks) l = same k l || has ks l

-- every literal of the list but l is false
abbrev pub others_false : Setting → List Literal → Literal → Bool
others_false s [] l = true
others_false s (k ∷ ks) l = (same k l || stands s (opposite k)) && others_false s ks l

abbrev pub alone : List Literal → Setting → Literal → Bool
alone ls s l = free s l && (has ls l && others_false s ls l)

abbrev pub clause_broken : Clause → Setting → Bool
clause_broken c s = all_false s (literals_in c)

abbrev pub clause_mentions : Clause → ℕ → Bool
clause_mentions c n = mentioned (literals_in c) n
