-- What a pair of shelves means, by what its two shelves mean.
--   pair_letter   the letter x
--   pair_rules    the rules of a pair
--   split_of      where its second shelf's rules begin
--   PairView      a pair as contracts see it
--   Joined        what holds of every pair
use Rattle.std.specs.Prelude.{◌≡◌, ℕ, cond, List, ◌++◌, length, Option, None, Some, nat_lt}
use Rattle.literals.specs.declared.literal.Literal.{Literal}
use Rattle.shelf.specs.Meanings.{Meaning, capped}

abbrev pub pair_letter : ℕ
pair_letter = 120

-- the first's rules, then the second's with their numbers continued; over 1,024 of them the one rule that fails shut
abbrev pub pair_rules : List Meaning → List Meaning → List Meaning
pair_rules firsts seconds = capped pair_letter (firsts ++ seconds)

-- how many rules the first has, where there are not too many in all
abbrev pub split_of : List Meaning → List Meaning → Option ℕ
split_of firsts seconds = cond (nat_lt 1024 (length (firsts ++ seconds))) None (Some (length firsts))

-- all the fields of a pair
pub record PairView (A B : Type 0) : Type 0 where
  pub first : A
  pub second : B
  pub split : Option ℕ

-- both shelves were told the same, and the pair knows where the second's rules begin
pub record Joined (firsts seconds : List Meaning) (first_told second_told : List Literal) (split : Option ℕ) : Type 0 where
  pub same : first_told ≡ second_told
  pub splits : split ≡ split_of firsts seconds
