-- Rules as a rulebook states them.
--   StatedTerm         a weight and a switch with its sign, as they are written
--   Stated             a rule: its kind, its bound and its terms
--   begun, grown       the rule that a line begins, and the rule with the term of one line more
--   small_weight, ..   what is kept of a weight and of a switch in 16 bits
use Rattle.std.specs.Prelude.{ℕ, cond, List, [], ◌∷◌, ◌++◌, map, ℤ, pos, nat_lt}
use Rattle.literals.specs.Literals.{no_literal}
use Rattle.entries.specs.declared.kind.RuleKind.{RuleKind}
use Rattle.entries.specs.declared.entry.Entry.{Entry}

pub record StatedTerm : Type 0 where
  pub weight : ℕ
  pub switch : ℤ

pub record Stated : Type 0 where
  pub kind : RuleKind
  pub bound : ℕ
  pub terms : List StatedTerm

abbrev pub stated_weights : Stated → List ℕ
stated_weights s = map (λ t. t.weight) s.terms

abbrev pub stated_switches : Stated → List ℤ
stated_switches s = map (λ t. t.switch) s.terms

abbrev pub term_of : Entry → StatedTerm
term_of e = record { weight = e.weight; switch = e.switch }

abbrev pub begun : Entry → Stated
begun e = record { kind = e.kind; bound = e.bound; terms = term_of e ∷ [] }

abbrev pub grown : Stated → Entry → Stated
grown s e = record { kind = s.kind; bound = s.bound; terms = s.terms ++ (term_of e ∷ []) }

-- a weight above 65,535 is kept as 0
abbrev pub small_weight : ℕ → ℕ
small_weight w = cond (nat_lt 65535 w) 0 w

-- the number of no literal is kept as 0
abbrev pub small_switch : ℤ → ℤ
small_switch z = cond (no_literal z) (pos 0) z
