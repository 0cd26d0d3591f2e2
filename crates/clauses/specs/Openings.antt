-- The first literal of a list that is not false.
use Rattle.std.specs.Prelude.{◌≡◌, true, false, List, ◌∷◌, ◌++◌}
use Rattle.literals.specs.declared.literal.Literal.{Literal}
use Rattle.literals.specs.declared.setting.Setting.{Setting}
use Rattle.literals.specs.Literals.{opposite}
use Rattle.literals.specs.Settings.{stands}
use Rattle.clauses.specs.Clauses.{all_false}

pub record FirstOpen (s : Setting) (ls : List Literal) (l : Literal) : Type 0 where
  pub before : List Literal
  pub after : List Literal
  pub split : ls ≡ before ++ (l ∷ after)
  pub false_before : all_false s before ≡ true
  pub open_here : stands s (opposite l) ≡ false
