-- The columns of a rulebook.
--   name_of   the name of a column
--   Named     the column of a name, or an error where there is none
--   Apart     no column comes twice
use Rattle.std.specs.Prelude.{◌≡◌, ◌≢◌, ℕ, List, codes, Result, MatchResult, AllPairs}
use Rattle.entries.specs.declared.column.Column.{Column}
use Rattle.entries.specs.declared.column.Column.TheVariants.{Rule, Kind, Bound, Weight, Switch}
use Rattle.entries.specs.declared.column.UnknownColumn.{UnknownColumn}

abbrev pub name_of : Column → List ℕ
name_of Rule = codes "rule"
name_of Kind = codes "kind"
name_of Bound = codes "bound"
name_of Weight = codes "weight"
name_of Switch = codes "switch"

abbrev pub Named : List ℕ → Result Column UnknownColumn → Type 0
Named name r = MatchResult r (λ c. name ≡ name_of c) (λ _. (c : Column) → name ≢ name_of c)

abbrev pub Apart : List Column → Type 0
Apart cs = AllPairs (λ c d. c ≢ d) cs
