-- Lines of five fields, by the places where they stand in the text.
--   closes     what ends each of the five fields: a space each of the first four, a line break the fifth
--   FieldsAt   at a place of the text stand these fields, one behind the other, each before what ends it
--   after      where the reading goes on after them
--   places     and where each of them begins
--   LineAt     at a place of the text stands a line of these five fields
--   NoLineAt   no line of five fields stands there
use Rattle.std.specs.Prelude.{ℕ, List, [], ◌∷◌}
use Rattle.cursor.specs.declared.close.Close.{Close}
use Rattle.cursor.specs.declared.close.Close.TheVariants.{Space, Break}
use Rattle.cursor.specs.Fields.{FieldAt, byte_of, past}

abbrev pub closes : List Close
closes = Space ∷ Space ∷ Space ∷ Space ∷ Break ∷ []

abbrev pub after : ℕ → List (List ℕ) → ℕ
after p [] = p
after p (f ∷ w) = after (past p f) w

abbrev pub places : ℕ → List (List ℕ) → List ℕ
places p [] = []
places p (f ∷ w) = p ∷ places (past p f) w

abbrev pub FieldsAt : List ℕ → ℕ → List Close → List (List ℕ) → Type 0
FieldsAt text p [] [] = Unit
FieldsAt text p [] (f ∷ w) = ⊥
FieldsAt text p (c ∷ cs) [] = ⊥
FieldsAt text p (c ∷ cs) (f ∷ w) = FieldAt text p f (byte_of c) × FieldsAt text (past p f) cs w

pub record LineAt (text : List ℕ) (p : ℕ) (w : List (List ℕ)) : Type 0 where
  pub fields : FieldsAt text p closes w

abbrev pub NoLineAt : List ℕ → ℕ → Type 0
NoLineAt text p = (w : List (List ℕ)) → LineAt text p w → ⊥
