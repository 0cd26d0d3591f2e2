-- What the fields of a line say.
--   Names      the five fields name the columns in this order
--   Holds      a field writes the entry's value of a column
--   Says       the five fields, in this order of columns, write the entry
--   Bad        a field writes no value of its column
--   wrong      the refusal of such a field
--   FirstBadOf, FirstBad   the first bad field of a line, by its refusal and its place
--   Keeps      one column's value is read, the others stay
use Rattle.std.specs.Prelude.{◌≡◌, ℕ, List, [], ◌∷◌, map}
use Rattle.std.specs.List.{AllZip}
use Rattle.literals.specs.declared.refusal.Refusal.{Refusal}
use Rattle.literals.specs.declared.refusal.Refusal.TheVariants.{NotNumber, KindLetter}
use Rattle.numerals.specs.Numerals.{Numeral, SignedNumeral}
use Rattle.entries.specs.declared.column.Column.{Column}
use Rattle.entries.specs.declared.column.Column.TheVariants.{Rule, Kind, Bound, Weight, Switch}
use Rattle.entries.specs.declared.order.Order.{Order}
use Rattle.entries.specs.declared.entry.Entry.{Entry}
use Rattle.entries.specs.Columns.{name_of}
use Rattle.entries.specs.Kinds.{letter_of}

-- an order has no column twice
pub record Names (w : List (List ℕ)) (o : Order) : Type 0 where
  pub names : w ≡ map name_of o.columns

-- a kind by its letter, the switch with or without a minus, the others as plain numbers
abbrev pub Holds : Column → List ℕ → Entry → Type 0
Holds Rule f e = Numeral f e.rule
Holds Kind f e = f ≡ letter_of e.kind ∷ []
Holds Bound f e = Numeral f e.bound
Holds Weight f e = Numeral f e.weight
Holds Switch f e = SignedNumeral f e.switch

pub record Says (o : Order) (w : List (List ℕ)) (e : Entry) : Type 0 where
  pub fields : AllZip (λ c f. Holds c f e) o.columns w

abbrev pub Good : Column → List ℕ → Type 0
Good c f = (e : Entry) × Holds c f e

abbrev pub Bad : Column → List ℕ → Type 0
Bad c f = (e : Entry) → Holds c f e → ⊥

abbrev pub wrong : Column → Refusal
wrong Rule = NotNumber
wrong Kind = KindLetter
wrong Bound = NotNumber
wrong Weight = NotNumber
wrong Switch = NotNumber

-- of fields w at places q, each with its column
pub data FirstBadOf : List Column → List (List ℕ) → List ℕ → Refusal → ℕ → Type 0 where
  bad : {c : Column} {f : List ℕ} {p : ℕ} {cs : List Column} {w : List (List ℕ)} {q : List ℕ}
      → Bad c f → FirstBadOf (c ∷ cs) (f ∷ w) (p ∷ q) (wrong c) p
  later : {c : Column} {f : List ℕ} {p : ℕ} {cs : List Column} {w : List (List ℕ)} {q : List ℕ} {r : Refusal} {at : ℕ}
      → Good c f → FirstBadOf cs w q r at → FirstBadOf (c ∷ cs) (f ∷ w) (p ∷ q) r at

abbrev pub FirstBad : Order → List (List ℕ) → List ℕ → Refusal → ℕ → Type 0
FirstBad o w q r p = FirstBadOf o.columns w q r p

abbrev pub Keeps : Column → Entry → Entry → Type 0
Keeps Rule e n = (n.kind ≡ e.kind) × (n.bound ≡ e.bound) × (n.weight ≡ e.weight) × (n.switch ≡ e.switch)
Keeps Kind e n = (n.rule ≡ e.rule) × (n.bound ≡ e.bound) × (n.weight ≡ e.weight) × (n.switch ≡ e.switch)
Keeps Bound e n = (n.rule ≡ e.rule) × (n.kind ≡ e.kind) × (n.weight ≡ e.weight) × (n.switch ≡ e.switch)
Keeps Weight e n = (n.rule ≡ e.rule) × (n.kind ≡ e.kind) × (n.bound ≡ e.bound) × (n.switch ≡ e.switch)
Keeps Switch e n = (n.rule ≡ e.rule) × (n.kind ≡ e.kind) × (n.bound ≡ e.bound) × (n.weight ≡ e.weight)
