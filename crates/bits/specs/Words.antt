-- A word as a set of numbers.
--   bit        a number is in the set
--   kept       of a run of numbers, those that pass a test
use Rattle.std.specs.Prelude.{ℕ, zero, suc, ◌/◌, ◌%◌, ◌^◌, Bool, cond, List, [], ◌∷◌, ◌==◌}

-- bit i of the word w, from the lowest, is 1
abbrev pub bit : ℕ → ℕ → Bool
bit w i = w / 2 ^ i % 2 == 1

-- of the k numbers from b on, those at which p holds, lowest first
abbrev pub kept : (ℕ → Bool) → ℕ → ℕ → List ℕ
kept p b zero = []
kept p b (suc k) = cond (p b) (b ∷ kept p (suc b) k) (kept p (suc b) k)
