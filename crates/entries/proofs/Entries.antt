-- A line's fields are read one after the other: the value of one column is read, and those of the others stay.
use Rattle.std.proofs.Common.{◌≡◌, ℕ, suc, ◌+◌, ◌<◌, ◌≢◌, List, [], ◌∷◌, ◌++◌, length, get_or, min, take, drop, sym, refl, ap, ◌∙◌, subst, arith}
use Rattle.std.specs.List.{AllZip}
use Rattle.std.proofs.lemmas.List.{take_all, take_more, drop_more, take-append-drop, get_or-take, length-take-le}
use Rattle.std.proofs.lemmas.Slice.Zip.{all_zipped_more}
use Rattle.literals.specs.declared.refusal.Refusal.{Refusal}
use Rattle.cursor.specs.declared.field.Field.{Field}
use Rattle.lines.specs.Fields.{words, starts}
use Rattle.entries.specs.declared.column.Column.{Column}
use Rattle.entries.specs.declared.column.Column.TheVariants.{Rule, Kind, Bound, Weight, Switch}
use Rattle.entries.specs.declared.entry.Entry.{Entry}
use Rattle.entries.specs.Columns.{Apart}
use Rattle.entries.specs.Entries.{Holds, Keeps, Good, Bad, FirstBadOf, bad, later, wrong}

-- a list of one element
pub single : (xs : List ℕ) (b : ℕ) → length xs ≡ 1 → get_or xs 0 0 ≡ b → xs ≡ b ∷ []
single [] b l e = absurd (omega arith)
single (x ∷ []) b l e = ap (λ y. y ∷ []) e
single (x ∷ y ∷ ys) b l e = absurd (omega arith)

-- what the other columns hold stays
kept : (c d : Column) (f : List ℕ) (e n : Entry) → c ≢ d → Keeps d e n → Holds c f e → Holds c f n
kept Rule Rule f e n apart k h = absurd (apart refl)
kept Rule Kind f e n apart k h = rw k.0 h
kept Rule Bound f e n apart k h = rw k.0 h
kept Rule Weight f e n apart k h = rw k.0 h
kept Rule Switch f e n apart k h = rw k.0 h
kept Kind Rule f e n apart k h = rw k.0 h
kept Kind Kind f e n apart k h = absurd (apart refl)
kept Kind Bound f e n apart k h = rw k.1 h
kept Kind Weight f e n apart k h = rw k.1 h
kept Kind Switch f e n apart k h = rw k.1 h
kept Bound Rule f e n apart k h = rw k.1 h
kept Bound Kind f e n apart k h = rw k.1 h
kept Bound Bound f e n apart k h = absurd (apart refl)
kept Bound Weight f e n apart k h = rw k.2 h
kept Bound Switch f e n apart k h = rw k.2 h
kept Weight Rule f e n apart k h = rw k.2 h
kept Weight Kind f e n apart k h = rw k.2 h
kept Weight Bound f e n apart k h = rw k.2 h
kept Weight Weight f e n apart k h = absurd (apart refl)
kept Weight Switch f e n apart k h = rw k.3 h
kept Switch Rule f e n apart k h = rw k.3 h
kept Switch Kind f e n apart k h = rw k.3 h
kept Switch Bound f e n apart k h = rw k.3 h
kept Switch Weight f e n apart k h = rw k.3 h
kept Switch Switch f e n apart k h = absurd (apart refl)

-- ---- the fields that were read

-- each of these fields writes the entry's value of its column
abbrev pub Read : List Column → List Field → Entry → Type 0
Read cs fs e = AllZip (λ c f. Holds c f.bytes.now e) cs fs

all_kept : (cs : List Column) (fs : List Field) (d : Column) (e n : Entry) → ((k : ℕ) → k < length cs → get_or cs k d ≢ d) → Keeps d e n → Read cs fs e → Read cs fs n
all_kept [] [] d e n apart k r = r
all_kept [] (f ∷ fs) d e n apart k r = r
all_kept (c ∷ cs) [] d e n apart k r = r
all_kept (c ∷ cs) (f ∷ fs) d e n apart k r =
    (kept c d f.bytes.now e n (apart 0 (omega arith)) k r.0, all_kept cs fs d e n (λ i h. apart (suc i) (omega arith)) k r.1)

-- a field that is refused, after those that were read
first_bad : (cs ds : List Column) (fs gs : List Field) (c : Column) (f : Field) (e : Entry) → Read cs fs e → Bad c f.bytes.now
    → FirstBadOf (cs ++ c ∷ ds) (words (fs ++ f ∷ gs)) (starts (fs ++ f ∷ gs)) (wrong c) f.place
first_bad [] ds [] gs c f e r b = bad b
first_bad [] ds (g ∷ fs) gs c f e r b = absurd r
first_bad (d ∷ cs) ds [] gs c f e r b = absurd r
first_bad (d ∷ cs) ds (g ∷ fs) gs c f e r b = later (e, r.0) (first_bad cs ds fs gs c f e r.1 b)

-- ---- the field f, of column c, after i others

module _ (cs : List Column) (fs : List Field) (i : ℕ) (c : Column) (f : Field) (e : Entry) (read : Read (take i cs) (take i fs) e)
    (next : (i < length cs) × (i < length fs) × ((d : Column) → c ≡ get_or cs i d) × ((d : Field) → f ≡ get_or fs i d)) where
  pub one_read : (n : Entry) → Apart cs → Holds c f.bytes.now n → Keeps c e n → Read (take (i + 1) cs) (take (i + 1) fs) n
  one_read n apart h k =
      let long : length (take i cs) ≡ i = length-take-le i cs (omega (arith, next.0)) in
      let others : (j : ℕ) → j < length (take i cs) → get_or (take i cs) j c ≢ c =
      λ j l same. apart j i c (omega (arith, long)) next.0 (sym (get_or-take i cs j c (omega (arith, long))) ∙ (same ∙ next.2 c)) in
      rw (take_more cs i c next.0, take_more fs i f next.1, ← next.2 c, ← next.3 f) (all_zipped_more _ _ _ _ _ (all_kept _ _ c e n others k read) h)

  pub one_refused : (r : Refusal) (p : ℕ) → Bad c f.bytes.now → r ≡ wrong c → p ≡ f.place → FirstBadOf cs (words fs) (starts fs) r p
  one_refused r p b er ep =
      let ec : take i cs ++ c ∷ drop (i + 1) cs ≡ cs = ap (λ x. take i cs ++ x) (ap (λ x. x ∷ drop (i + 1) cs) (next.2 c) ∙ sym (drop_more cs i c next.0)) ∙ take-append-drop i cs in
      let ef : take i fs ++ f ∷ drop (i + 1) fs ≡ fs = ap (λ x. take i fs ++ x) (ap (λ x. x ∷ drop (i + 1) fs) (next.3 f) ∙ sym (drop_more fs i f next.1)) ∙ take-append-drop i fs in
      rw (er, ep) (subst (λ x. FirstBadOf x (words fs) (starts fs) (wrong c) f.place) ec
      (subst (λ x. FirstBadOf (take i cs ++ c ∷ drop (i + 1) cs) (words x) (starts x) (wrong c) f.place) ef
      (first_bad (take i cs) (drop (i + 1) cs) (take i fs) (drop (i + 1) fs) c f e read b)))

-- ---- a field that was refused, after those that were read, said of each of the five

module _ (c1 c2 c3 c4 c5 : Column) (f1 f2 f3 f4 f5 : List ℕ) (q1 q2 q3 q4 q5 : ℕ) where
  abbrev First : Refusal → ℕ → Type 0
  First n p = FirstBadOf (c1 ∷ c2 ∷ c3 ∷ c4 ∷ c5 ∷ []) (f1 ∷ f2 ∷ f3 ∷ f4 ∷ f5 ∷ []) (q1 ∷ q2 ∷ q3 ∷ q4 ∷ q5 ∷ []) n p

  pub bad_first : Bad c1 f1 → First (wrong c1) q1
  bad_first b = bad b

  pub bad_second : Good c1 f1 → Bad c2 f2 → First (wrong c2) q2
  bad_second h1 b = later h1 (bad b)

  pub bad_third : Good c1 f1 → Good c2 f2 → Bad c3 f3 → First (wrong c3) q3
  bad_third h1 h2 b = later h1 (later h2 (bad b))

  pub bad_fourth : Good c1 f1 → Good c2 f2 → Good c3 f3 → Bad c4 f4 → First (wrong c4) q4
  bad_fourth h1 h2 h3 b = later h1 (later h2 (later h3 (bad b)))

  pub bad_fifth : Good c1 f1 → Good c2 f2 → Good c3 f3 → Good c4 f4 → Bad c5 f5 → First (wrong c5) q5
  bad_fifth h1 h2 h3 h4 b = later h1 (later h2 (later h3 (later h4 (bad b))))

  module _ (n : Refusal) (p : ℕ) where
    pub refused_first : Bad c1 f1 → n ≡ wrong c1 → p ≡ q1 → First n p
    refused_first b e f = rw (e, f) (bad_first b)

    pub refused_second : Good c1 f1 → Bad c2 f2 → n ≡ wrong c2 → p ≡ q2 → First n p
    refused_second h1 b e f = rw (e, f) (bad_second h1 b)

    pub refused_third : Good c1 f1 → Good c2 f2 → Bad c3 f3 → n ≡ wrong c3 → p ≡ q3 → First n p
    refused_third h1 h2 b e f = rw (e, f) (bad_third h1 h2 b)

    pub refused_fourth : Good c1 f1 → Good c2 f2 → Good c3 f3 → Bad c4 f4 → n ≡ wrong c4 → p ≡ q4 → First n p
    refused_fourth h1 h2 h3 b e f = rw (e, f) (bad_fourth h1 h2 h3 b)

    pub refused_fifth : Good c1 f1 → Good c2 f2 → Good c3 f3 → Good c4 f4 → Bad c5 f5 → n ≡ wrong c5 → p ≡ q5 → First n p
    refused_fifth h1 h2 h3 h4 b e f = rw (e, f) (bad_fifth h1 h2 h3 h4 b)

-- ---- the whole line

by_words : (cs : List Column) (fs : List Field) (e : Entry) → Read cs fs e → AllZip (λ c w. Holds c w e) cs (words fs)
by_words [] [] e r = r
by_words [] (f ∷ fs) e r = r
by_words (c ∷ cs) [] e r = r
by_words (c ∷ cs) (f ∷ fs) e r = (r.0, by_words cs fs e r.1)

pub line_read : (cs : List Column) (fs : List Field) (i : ℕ) (e : Entry) → length cs ≡ 5 → length fs ≡ 5 → i ≡ min (length cs) (length fs)
    → Read (take i cs) (take i fs) e → AllZip (λ c w. Holds c w e) cs (words fs)
line_read cs fs i e hc hf end read =
    let all : Read cs fs e = rw (take_all i cs (omega arith), take_all i fs (omega arith)) at read in
    by_words cs fs e all
