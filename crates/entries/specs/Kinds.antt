-- The kinds of rules in a rulebook.
--   letter_of   the letter of a kind: n, m or c
--   Lettered    the kind whose letter is the whole field, or an error where there is none
use Rattle.std.specs.Prelude.{◌≡◌, ◌≢◌, ℕ, List, [], ◌∷◌, Result, MatchResult}
use Rattle.entries.specs.declared.kind.RuleKind.{RuleKind}
use Rattle.entries.specs.declared.kind.RuleKind.TheVariants.{AtLeast, AtMost, Clause}
use Rattle.entries.specs.declared.kind.UnknownKind.{UnknownKind}

abbrev pub letter_of : RuleKind → ℕ
letter_of AtLeast = 110
letter_of AtMost = 109
letter_of Clause = 99

abbrev pub Lettered : List ℕ → Result RuleKind UnknownKind → Type 0
Lettered field r = MatchResult r (λ k. field ≡ letter_of k ∷ []) (λ _. (k : RuleKind) → field ≢ letter_of k ∷ [])
