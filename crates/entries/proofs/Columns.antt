-- One column to a name; no column comes twice.
use Rattle.std.proofs.Common.{Result, Ok, Err, IfOk, IfErr, MatchResult, map, ◌≡◌, ℕ, ◌<◌, ◌≢◌, List, [], ◌∷◌, cond, eqb, length, get_or, take, sym, refl, ap, ◌∙◌, subst, arith}
use Rattle.std.specs.List.{Contains}
use Rattle.std.proofs.lemmas.List.{get_or-take, get_or_default, get_or-map, length-map, length-take-le}
use Rattle.std.specs.List.{AllZip, IsAmong}
use Rattle.std.specs.Array.{AllZipBelow}
use Rattle.cursor.specs.declared.field.Field.{Field}
use Rattle.lines.specs.Fields.{words}
use Rattle.entries.specs.declared.column.Column.{Column}
use Rattle.entries.specs.declared.column.Column.TheVariants.{Rule, Kind, Bound, Weight, Switch}
use Rattle.entries.specs.declared.column.UnknownColumn.{UnknownColumn}
use Rattle.entries.specs.declared.order.Order.{Order}
use Rattle.entries.specs.Columns.{Apart, name_of}
use Rattle.entries.specs.Entries.{Names}

-- a column that is none of the first n
pub one_more : (cs : List Column) (n : ℕ) (x : Column) → n < length cs → (Contains (take n cs) (get_or cs n x) → ⊥)
    → (i : ℕ) (d : Column) → i < n → get_or cs i d ≢ get_or cs n d
one_more cs n x l new i d h e =
    new (i, omega (arith, length-take-le n cs (omega arith)), get_or-take n cs i _ h ∙ (get_or_default cs i _ d (omega arith) ∙ (e ∙ get_or_default cs n d x l)))

-- ---- no column comes twice, said of each two of the five

module _ (a b c d e : Column) (p : Apart (a ∷ b ∷ c ∷ d ∷ e ∷ [])) where
  pub first_second : a ≢ b
  first_second = p 0 1 a (omega arith) (omega arith)

  pub first_third : a ≢ c
  first_third = p 0 2 a (omega arith) (omega arith)

  pub first_fourth : a ≢ d
  first_fourth = p 0 3 a (omega arith) (omega arith)

  pub first_fifth : a ≢ e
  first_fifth = p 0 4 a (omega arith) (omega arith)

  pub second_third : b ≢ c
  second_third = p 1 2 a (omega arith) (omega arith)

  pub second_fourth : b ≢ d
  second_fourth = p 1 3 a (omega arith) (omega arith)

  pub second_fifth : b ≢ e
  second_fifth = p 1 4 a (omega arith) (omega arith)

  pub third_fourth : c ≢ d
  third_fourth = p 2 3 a (omega arith) (omega arith)

  pub third_fifth : c ≢ e
  third_fifth = p 2 4 a (omega arith) (omega arith)

  pub fourth_fifth : d ≢ e
  fourth_fifth = p 3 4 a (omega arith) (omega arith)

-- ---- one name to a column

pub head_of : {a b : ℕ} {xs ys : List ℕ} → a ∷ xs ≡ b ∷ ys → a ≡ b
head_of e = cc

-- the column whose name begins with this byte
begun : ℕ → Column
begun b = cond (eqb b 114) Rule (cond (eqb b 107) Kind (cond (eqb b 98) Bound (cond (eqb b 119) Weight Switch)))

begun_name : (c : Column) → begun (get_or (name_of c) 0 0) ≡ c
unfolding begun
begun_name Rule = refl
begun_name Kind = refl
begun_name Bound = refl
begun_name Weight = refl
begun_name Switch = refl

pub one_column : (c d : Column) → name_of c ≡ name_of d → c ≡ d
one_column c d e = sym (begun_name c) ∙ (ap (λ f. begun (get_or f 0 0)) e ∙ begun_name d)

pub one_list : (cs ds : List Column) → map name_of cs ≡ map name_of ds → cs ≡ ds
one_list [] [] e = refl
one_list [] (d ∷ ds) e = cc
one_list (c ∷ cs) [] e = cc
one_list (c ∷ cs) (d ∷ ds) e =
    let head : name_of c ≡ name_of d = cc in
    let tail : map name_of cs ≡ map name_of ds = cc in
    cc (one_column c d head, one_list cs ds tail)

-- ---- the names of a line

all_named : {R : Field → Column → Type 0} → ((f : Field) (c : Column) → R f c → f.bytes.now ≡ name_of c)
    → (fs : List Field) (cs : List Column) → AllZip R fs cs → words fs ≡ map name_of cs
all_named good [] [] a = refl
all_named good [] (c ∷ cs) a = absurd a
all_named good (f ∷ fs) [] a = absurd a
all_named good (f ∷ fs) (c ∷ cs) a = cc (good f c a.0, all_named good fs cs a.1)

one_unnamed : (fs : List Field) (f : Field) → IsAmong fs f → ((c : Column) → f.bytes.now ≢ name_of c) → (cs : List Column) → words fs ≢ map name_of cs
one_unnamed fs f a none cs e =
    let i = a.0 in
    let long : length fs ≡ length cs = sym (length-map fs _) ∙ (ap length e ∙ length-map cs name_of) in
    none (get_or cs i Rule) (
    ap (λ g. g.bytes.now) a.1.1 ∙ (sym (get_or-map _ fs i f f.bytes.now a.1.0)
    ∙ (ap (λ ws. get_or ws i f.bytes.now) e ∙ get_or-map name_of cs i Rule f.bytes.now (omega (arith, a.1.0))))
    )

pub names_read : {R : Field → Column → Type 0} {P : Type 0} {S : Field → UnknownColumn → P → P → Type 0} (fs : List Field)
    → ((f : Field) (c : Column) → R f c → f.bytes.now ≡ name_of c) → ((f : Field) (u : UnknownColumn) (p q : P) → S f u p q → (c : Column) → f.bytes.now ≢ name_of c)
    → (r : Result (List Column) UnknownColumn) → IfOk r (λ cs. AllZipBelow R fs cs 5) → IfErr r (λ u. (f : Field) × IsAmong fs f × (p : P) × (q : P) × S f u p q)
    → MatchResult r (λ cs. words fs ≡ map name_of cs) (λ _. (cs : List Column) → words fs ≢ map name_of cs)
names_read fs good wrong (Ok cs) a b = all_named good fs cs a.whole
names_read fs good wrong (Err u) a b = one_unnamed fs b.0 b.1 (wrong b.0 u b.2 b.3 b.4)

-- columns of which one comes twice are no order of the line that names them
pub names_apart : (w : List (List ℕ)) (cs : List Column) → (Apart cs → ⊥) → w ≡ map name_of cs → (o : Order) → Names w o → ⊥
names_apart w cs twice e o n = twice (subst Apart (one_list o.columns cs (sym n.names ∙ e)) o.once)

pub columns_apart : (o : Order) → Apart o.columns
columns_apart o = o.once
