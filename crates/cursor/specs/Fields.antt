-- Fields of a text, by the places where they stand.
--   byte_of     the byte that ends a field: a space or a line break
--   Plain       a byte is neither a space nor a line break
--   Word        at least one byte, and all of them plain
--   past        where the reading goes on after a field and the byte that ends it
--   FieldAt     at a place of the text stands this field, and then this byte
--   NoFieldAt   no field stands there before this byte
--   Stops       a byte is not plain, or the text ends there
--   FieldEnd    where plain bytes come to an end
use Rattle.std.specs.Prelude.{◌≡◌, ℕ, ◌+◌, ◌<◌, ◌≤◌, List, ◌∷◌, ◌++◌, length, drop, ◌≢◌, slice_index}
use Rattle.cursor.specs.declared.close.Close.{Close}
use Rattle.cursor.specs.declared.close.Close.TheVariants.{Space, Break}

abbrev pub byte_of : Close → ℕ
byte_of Space = 32
byte_of Break = 10

abbrev pub Plain : ℕ → Type 0
Plain b = (b ≢ 32) × (b ≢ 10)

abbrev pub AllPlain : List ℕ → Type 0
AllPlain xs = (k : ℕ) → k < length xs → Plain (slice_index xs k)

abbrev pub Word : List ℕ → Type 0
Word f = (0 < length f) × AllPlain f

abbrev pub past : ℕ → List ℕ → ℕ
past p f = p + length f + 1

pub record FieldAt (text : List ℕ) (p : ℕ) (f : List ℕ) (x : ℕ) : Type 0 where
  pub word : Word f
  pub is : drop p text ≡ f ++ (x ∷ drop (past p f) text)

abbrev pub NoFieldAt : List ℕ → ℕ → ℕ → Type 0
NoFieldAt text p x = (f : List ℕ) → FieldAt text p f x → ⊥

-- the byte at k is a space or a line break, or the text ends there
abbrev pub Stops : List ℕ → ℕ → Type 0
Stops xs k = k < length xs → Plain (slice_index xs k) → ⊥

pub record FieldEnd (xs : List ℕ) (at end : ℕ) : Type 0 where
  pub after : at ≤ end
  pub within : end ≤ length xs
  pub plain : (k : ℕ) → at ≤ k → k < end → Plain (slice_index xs k)
  pub stops : Stops xs end
