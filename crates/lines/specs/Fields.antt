-- What fields that were read hold.
--   words, starts          the fields' bytes and their places
--   fields_of, places_of   those of a line
use Rattle.std.specs.Prelude.{ℕ, List, map}
use Rattle.cursor.specs.declared.field.Field.{Field}
use Rattle.lines.specs.declared.line.Line.{Line}

abbrev pub words : List Field → List (List ℕ)
words fs = map (λ f. f.bytes.now) fs

abbrev pub starts : List Field → List ℕ
starts fs = map (λ f. f.place) fs

abbrev pub fields_of : Line → List (List ℕ)
fields_of l = words l.fields

abbrev pub places_of : Line → List ℕ
places_of l = starts l.fields
