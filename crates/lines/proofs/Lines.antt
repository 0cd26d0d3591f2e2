-- Fields that stand one behind the other, and none behind them; a text has one line at a place.
use Rattle.std.proofs.Common.{◌≡◌, ℕ, ◌+◌, ◌<◌, ◌≤◌, List, [], ◌∷◌, ◌++◌, length, get_or, take, drop, sym, refl, ap, ◌∙◌, subst, arith}
use Rattle.std.proofs.lemmas.List.{drop_more, take-append-drop}
use Rattle.cursor.specs.declared.close.Close.{Close}
use Rattle.cursor.specs.declared.close.Close.TheVariants.{Space}
use Rattle.cursor.specs.declared.field.Field.{Field}
use Rattle.cursor.specs.Fields.{NoFieldAt, past, byte_of}
use Rattle.cursor.proofs.Fields.{same_field, field_within, not_plain}
use Rattle.lines.specs.Fields.{words, starts}
use Rattle.lines.specs.Lines.{FieldsAt, LineAt, NoLineAt, closes, after, places}

-- ---- where the next field is missing

pub no_fields : (t : List ℕ) (p : ℕ) (cs : List Close) (w : List (List ℕ)) (c : Close) (ds : List Close) (v : List (List ℕ))
    → FieldsAt t p cs w → NoFieldAt t (after p w) (byte_of c) → FieldsAt t p (cs ++ c ∷ ds) v → ⊥
no_fields t p [] [] c ds [] a n b = b
no_fields t p [] [] c ds (h ∷ v) a n b = n h b.0
no_fields t p [] (g ∷ w) c ds v a n b = a
no_fields t p (d ∷ cs) [] c ds v a n b = a
no_fields t p (d ∷ cs) (g ∷ w) c ds [] a n b = b
no_fields t p (d ∷ cs) (g ∷ w) c ds (h ∷ v) a n b =
    let e : h ≡ g = same_field (not_plain d) b.0 a.0 in
    no_fields t (past p g) cs w c ds v a.1 n (subst (λ (x : List ℕ). FieldsAt t (past p x) (cs ++ c ∷ ds) v) e b.1)

-- ---- the first i fields were read, and the reading stands behind them

pub record ReadSoFar (t : List ℕ) (p : ℕ) (fs : List Field) (i at : ℕ) : Type 0 where
  pub fields : FieldsAt t p (take i closes) (words (take i fs))
  pub begun : starts (take i fs) ≡ places p (words (take i fs))
  pub behind : at ≡ after p (words (take i fs))

pub no_line : {t s : List ℕ} {p : ℕ} {fs : List Field} {i at : ℕ} → ReadSoFar t p fs i at → i < 5 → s ≡ t
    → NoFieldAt s at (byte_of (get_or closes i Space)) → NoLineAt t p
no_line {t} {s} {p} {fs} {i} {at} r h same n v b =
    let split : closes ≡ take i closes ++ get_or closes i Space ∷ drop (i + 1) closes =
    sym (take-append-drop i closes) ∙ ap (λ ds. take i closes ++ ds) (drop_more closes i Space h) in
    no_fields t p (take i closes) (words (take i fs)) _ (drop (i + 1) closes) v r.fields
    (subst (λ q. NoFieldAt t q (byte_of (get_or closes i Space))) r.behind (subst (λ u. NoFieldAt u at (byte_of (get_or closes i Space))) same n)) (subst (λ cs. FieldsAt t p cs v) split b.fields)

-- ---- one line stands at a place

pub same_fields : (t : List ℕ) (p : ℕ) (cs : List Close) (v w : List (List ℕ)) → FieldsAt t p cs v → FieldsAt t p cs w → v ≡ w
same_fields t p [] [] [] a b = refl
same_fields t p [] [] (h ∷ w) a b = absurd b
same_fields t p [] (g ∷ v) w a b = absurd a
same_fields t p (c ∷ cs) [] w a b = absurd a
same_fields t p (c ∷ cs) (g ∷ v) [] a b = absurd b
same_fields t p (c ∷ cs) (g ∷ v) (h ∷ w) a b =
    let e : h ≡ g = same_field (not_plain c) b.0 a.0 in
    let rest = same_fields t (past p g) cs v w a.1 (subst (λ (x : List ℕ). FieldsAt t (past p x) cs w) e b.1) in
    cc

pub same_line : {t : List ℕ} {p : ℕ} {w v : List (List ℕ)} → LineAt t p w → LineAt t p v → w ≡ v
same_line a b = same_fields _ _ closes _ _ a.fields b.fields

line_after : (t : List ℕ) (p : ℕ) (cs : List Close) (w : List (List ℕ)) → 0 < length cs → FieldsAt t p cs w → after p w ≤ length t
line_after t p [] w h a = absurd (omega arith)
line_after t p (c ∷ cs) [] h a = absurd a
line_after t p (c ∷ []) (g ∷ []) h a = let k = field_within a.0 in omega arith
line_after t p (c ∷ []) (g ∷ f ∷ w) h a = absurd a.1
line_after t p (c ∷ d ∷ cs) (g ∷ w) h a = line_after t (past p g) (d ∷ cs) w (omega arith) a.1

pub line_within : {t : List ℕ} {p : ℕ} {w : List (List ℕ)} → LineAt t p w → after p w ≤ length t
line_within {t} {p} {w} a = line_after t p closes w (omega arith) a.fields
