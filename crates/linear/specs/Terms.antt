-- Lists of terms, each a weight and a literal.
--   literals      the literals of the terms
--   weights       their weights
--   turned        a term on the opposite literal
--   bad_weights   a weight is 0, above 65,535, or above the one before it
--   counted       the weights of the terms whose literal is not false
--   weight_of     the weight of a literal
use Rattle.std.specs.Prelude.{ℕ, Bool, false, cond, ◌||◌, List, [], ◌∷◌, map, sum_by, ◌==◌, nat_lt}
use Rattle.literals.specs.declared.literal.Literal.{Literal}
use Rattle.literals.specs.declared.setting.Setting.{Setting}
use Rattle.literals.specs.Literals.{opposite, same}
use Rattle.literals.specs.Settings.{stands}
use Rattle.linear.specs.declared.term.Term.{Term}

abbrev pub literals : List Term → List Literal
literals ts = map (λ t. t.literal) ts

abbrev pub weights : List Term → List ℕ
weights ts = map (λ t. t.weight) ts

-- the same weight on the opposite literal
abbrev pub turned : Term → Term
turned t = record { weight = t.weight; literal = opposite t.literal }

-- a weight is 0 or above the one before it, and before the first stands `before`
abbrev pub bad_after : ℕ → List ℕ → Bool
bad_after before [] = false
bad_after before (w ∷ ws) = (w == 0 || nat_lt before w) || bad_after w ws

-- a weight is at most 65,535
abbrev pub bad_weights : List ℕ → Bool
bad_weights ws = bad_after 65535 ws

-- the weight of a term whose literal is not false, else 0
abbrev pub counts : Setting → Term → ℕ
counts s t = cond (stands s (opposite t.literal)) 0 t.weight

abbrev pub counted : Setting → List Term → ℕ
counted s ts = sum_by (counts s) ts

-- the weight that a term gives to a literal
abbrev pub weight_at : Literal → Term → ℕ
weight_at l t = cond (same t.literal l) t.weight 0

-- 0 where no term has the literal
abbrev pub weight_of : List Term → Literal → ℕ
weight_of ts l = sum_by (weight_at l) ts
