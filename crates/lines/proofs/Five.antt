-- A line field by field: what stands of fields one behind the other, written out for each of the five.
use Rattle.std.proofs.Common.{◌≡◌, ℕ, List, [], ◌∷◌, refl, sym, ap, subst, arith}
use Rattle.cursor.specs.declared.close.Close.TheVariants.{Space, Break}
use Rattle.cursor.specs.Fields.{FieldAt, NoFieldAt, past}
use Rattle.cursor.proofs.Fields.{same_field, space, break}
use Rattle.lines.specs.Lines.{LineAt, NoLineAt, after, places}
use Rattle.lines.proofs.Lines.{no_fields}

pub moved : {t f : List ℕ} {p q x : ℕ} → p ≡ q → FieldAt t p f x → FieldAt t q f x
moved {t} {f} {p} {q} {x} e b = subst (λ (n : ℕ). FieldAt t n f x) e b

missing : {t : List ℕ} {p q x : ℕ} → p ≡ q → NoFieldAt t p x → NoFieldAt t q x
missing {t} {p} {q} {x} e n = subst (λ (k : ℕ). NoFieldAt t k x) e n

-- ---- five fields that were read one after the other, at the places where the reading stood

module _ (p : ℕ) (a b c d e : List ℕ) (q2 q3 q4 q5 q6 : ℕ)
    (e2 : q2 ≡ past p a) (e3 : q3 ≡ past q2 b) (e4 : q4 ≡ past q3 c) (e5 : q5 ≡ past q4 d) (e6 : q6 ≡ past q5 e) where
  abbrev read : List (List ℕ)
  read = a ∷ b ∷ c ∷ d ∷ e ∷ []

  pub line_ends : q6 ≡ after p read
  line_ends = omega arith

  pub line_places : p ∷ q2 ∷ q3 ∷ q4 ∷ q5 ∷ [] ≡ places p read
  line_places = cc (e2, e3, e4, e5)

  pub whole_line : {t : List ℕ} → FieldAt t p a 32 → FieldAt t q2 b 32 → FieldAt t q3 c 32 → FieldAt t q4 d 32 → FieldAt t q5 e 10 → LineAt t p read
  whole_line b1 b2 b3 b4 b5 = record { fields = (b1, (moved e2 b2, (moved (omega arith) b3, (moved (omega arith) b4, (moved (omega arith) b5, tt))))) }

-- ---- where a field is missing, no line stands

module _ (t : List ℕ) (p : ℕ) where
  pub no_first : NoFieldAt t p 32 → NoLineAt t p
  no_first n w l = no_fields t p [] [] Space (Space ∷ Space ∷ Space ∷ Break ∷ []) w tt n l.fields

  module _ (a : List ℕ) (q2 : ℕ) (b1 : FieldAt t p a 32) (e2 : q2 ≡ past p a) where
    pub no_second : NoFieldAt t q2 32 → NoLineAt t p
    no_second n w l = no_fields t p (Space ∷ []) (a ∷ []) Space (Space ∷ Space ∷ Break ∷ []) w (b1, tt) (missing e2 n) l.fields

    module _ (b : List ℕ) (q3 : ℕ) (b2 : FieldAt t q2 b 32) (e3 : q3 ≡ past q2 b) where
      at3 : q3 ≡ past (past p a) b
      at3 = omega arith

      pub no_third : NoFieldAt t q3 32 → NoLineAt t p
      no_third n w l = no_fields t p (Space ∷ Space ∷ []) (a ∷ b ∷ []) Space (Space ∷ Break ∷ []) w (b1, (moved e2 b2, tt)) (missing at3 n) l.fields

      module _ (c : List ℕ) (q4 : ℕ) (b3 : FieldAt t q3 c 32) (e4 : q4 ≡ past q3 c) where
        at4 : q4 ≡ past (past (past p a) b) c
        at4 = omega arith

        pub no_fourth : NoFieldAt t q4 32 → NoLineAt t p
        no_fourth n w l =
            no_fields t p (Space ∷ Space ∷ Space ∷ []) (a ∷ b ∷ c ∷ []) Space (Break ∷ []) w (b1, (moved e2 b2, (moved at3 b3, tt))) (missing at4 n) l.fields

        module _ (d : List ℕ) (q5 : ℕ) (b4 : FieldAt t q4 d 32) (e5 : q5 ≡ past q4 d) where
          at5 : q5 ≡ past (past (past (past p a) b) c) d
          at5 = omega arith

          pub no_fifth : NoFieldAt t q5 10 → NoLineAt t p
          no_fifth n w l =
              no_fields t p (Space ∷ Space ∷ Space ∷ Space ∷ []) (a ∷ b ∷ c ∷ d ∷ []) Break [] w (b1, (moved e2 b2, (moved at3 b3, (moved at4 b4, tt)))) (missing at5 n) l.fields

-- ---- one line stands at a place: the fields are the same one after the other, and begin at the same places

same_five : (a b c d e a' b' c' d' e' : List ℕ) → a ≡ a' → b ≡ b' → c ≡ c' → d ≡ d' → e ≡ e' → a ∷ b ∷ c ∷ d ∷ e ∷ [] ≡ a' ∷ b' ∷ c' ∷ d' ∷ e' ∷ []
same_five a b c d e a' b' c' d' e' e1 e2 e3 e4 e5 = cc (e1, e2, e3, e4, e5)

module _ {t : List ℕ} {p : ℕ} {a b c d e a' b' c' d' e' : List ℕ} (w : LineAt t p (a ∷ b ∷ c ∷ d ∷ e ∷ [])) (v : LineAt t p (a' ∷ b' ∷ c' ∷ d' ∷ e' ∷ [])) where
  one : a ≡ a'
  one = same_field space w.fields.0 v.fields.0

  two_at : past p a' ≡ past p a
  two_at = ap (past p) (sym one)

  two : b ≡ b'
  two = same_field space w.fields.1.0 (moved two_at v.fields.1.0)

  three_at : past (past p a') b' ≡ past (past p a) b
  three_at = cc (two_at, two)

  three : c ≡ c'
  three = same_field space w.fields.1.1.0 (moved three_at v.fields.1.1.0)

  four_at : past (past (past p a') b') c' ≡ past (past (past p a) b) c
  four_at = cc (three_at, three)

  four : d ≡ d'
  four = same_field space w.fields.1.1.1.0 (moved four_at v.fields.1.1.1.0)

  five_at : past (past (past (past p a') b') c') d' ≡ past (past (past (past p a) b) c) d
  five_at = cc (four_at, four)

  five : e ≡ e'
  five = same_field break w.fields.1.1.1.1.0 (moved five_at v.fields.1.1.1.1.0)

-- ---- the same of another text or place

pub carried : {xs ys f : List ℕ} {p x : ℕ} → ys ≡ xs → FieldAt ys p f x → FieldAt xs p f x
carried {xs} {ys} {f} {p} {x} e b = subst (λ (zs : List ℕ). FieldAt zs p f x) e b

pub line_carried : {t s : List ℕ} {p : ℕ} {w : List (List ℕ)} → s ≡ t → LineAt s p w → LineAt t p w
line_carried {t} {s} {p} {w} e a = subst (λ (x : List ℕ). LineAt x p w) e a

pub no_line_carried : {t s : List ℕ} {p : ℕ} → s ≡ t → NoLineAt s p → NoLineAt t p
no_line_carried e n w a = n w (line_carried (sym e) a)

pub line_here : {t s : List ℕ} {p q : ℕ} {w : List (List ℕ)} → s ≡ t → q ≡ p → LineAt s q w → LineAt t p w
line_here {t} {s} {p} {q} {w} e f a = subst (λ (n : ℕ). LineAt t n w) f (line_carried e a)

pub no_line_here : {t s : List ℕ} {p q : ℕ} → s ≡ t → q ≡ p → NoLineAt s q → NoLineAt t p
no_line_here {t} {s} {p} {q} e f n = subst (λ (k : ℕ). NoLineAt t k) f (no_line_carried e n)

pub none_carried : {xs ys : List ℕ} {p x : ℕ} → ys ≡ xs → NoFieldAt ys p x → NoFieldAt xs p x
none_carried {xs} {ys} {p} {x} e n = subst (λ (zs : List ℕ). NoFieldAt zs p x) e n

-- ---- a line has five fields, and of these the five facts hold

pub line_is : (t : List ℕ) (p : ℕ) (w : List (List ℕ)) → LineAt t p w
    → (a : List ℕ) × (b : List ℕ) × (c : List ℕ) × (d : List ℕ) × (e : List ℕ) × (w ≡ a ∷ b ∷ c ∷ d ∷ e ∷ [])
    × FieldAt t p a 32 × FieldAt t (past p a) b 32 × FieldAt t (past (past p a) b) c 32
    × FieldAt t (past (past (past p a) b) c) d 32 × FieldAt t (past (past (past (past p a) b) c) d) e 10
line_is t p [] l = absurd l.fields
line_is t p (a ∷ []) l = absurd l.fields.1
line_is t p (a ∷ b ∷ []) l = absurd l.fields.1.1
line_is t p (a ∷ b ∷ c ∷ []) l = absurd l.fields.1.1.1
line_is t p (a ∷ b ∷ c ∷ d ∷ []) l = absurd l.fields.1.1.1.1
line_is t p (a ∷ b ∷ c ∷ d ∷ e ∷ []) l =
    (a, b, c, d, e, refl, l.fields.0, l.fields.1.0, l.fields.1.1.0, l.fields.1.1.1.0, l.fields.1.1.1.1.0)
line_is t p (a ∷ b ∷ c ∷ d ∷ e ∷ f ∷ w) l = absurd l.fields.1.1.1.1.1
