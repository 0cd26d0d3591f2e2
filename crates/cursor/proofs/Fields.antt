-- From the place where plain bytes end to the field that they are; a text has one field at a place.
use Rattle.std.proofs.Common.{◌≡◌, ℕ, suc, ◌+◌, ◌-◌, ◌<◌, ◌≤◌, ◌⊎◌, List, [], ◌∷◌, ◌++◌, length, get_or, take, drop, sym, refl, ap, ◌∙◌, subst, inl, inr, arith}
use Rattle.std.proofs.lemmas.List.{length-append, length-drop, length-take-le, get_or_at, get_or_append_left, get_or-take, take-append-drop, drop-drop, drop_more, get_or-drop}
use Rattle.std.proofs.lemmas.Bool.{cases_order}
use Rattle.cursor.specs.declared.close.Close.{Close}
use Rattle.cursor.specs.declared.close.Close.TheVariants.{Space, Break}
use Rattle.cursor.specs.Fields.{Plain, AllPlain, FieldAt, NoFieldAt, FieldEnd, past, byte_of}

-- ---- what ends a field is not plain

pub space : Plain 32 → ⊥
space p = p.0 refl

pub break : Plain 10 → ⊥
break p = p.1 refl

pub not_plain : (c : Close) → Plain (byte_of c) → ⊥
not_plain Space = space
not_plain Break = break

module _ {t f : List ℕ} {p x : ℕ} (b : FieldAt t p f x) where
  pub field_within : p + length f < length t
  field_within = omega (arith, length-drop p t, ap length b.is, length-append f (x ∷ drop (past p f) t))

  close_at : get_or t (p + length f) 0 ≡ x
  close_at = sym (get_or-drop p t (length f) 0) ∙ (ap (λ s. get_or s (length f) 0) b.is ∙ get_or_at f x (drop (past p f) t) 0 (length f) refl)

  plain_at : (k : ℕ) → k < length f → Plain (get_or t (p + k) 0)
  plain_at k h = subst Plain (sym (ap (λ s. get_or s k 0) b.is ∙ get_or_append_left f (x ∷ drop (past p f) t) 0 k h) ∙ get_or-drop p t k 0) (b.word.1 k h)

-- ---- the field between two places

module _ (xs : List ℕ) (at end : ℕ) (f : FieldEnd xs at end) where
  abbrev part : List ℕ
  part = take (end - at) (drop at xs)

  length_part : length part ≡ end - at
  length_part =
      let d : length (drop at xs) ≡ length xs - at = length-drop at xs in
      length-take-le (end - at) (drop at xs) (omega (arith, f.after, f.within))

  pub past_here : end + 1 ≡ past at part
  past_here = omega (arith, length_part, f.after)

  part_plain : AllPlain part
  part_plain k h =
      let h' : k < end - at = omega (arith, length_part) in
      subst Plain (sym (get_or-take (end - at) (drop at xs) k 0 h' ∙ get_or-drop at xs k 0)) (f.plain (at + k) (omega arith) (omega (arith, f.after)))

  pub field_here : (x : ℕ) → (end ≡ at → ⊥) → end < length xs → get_or xs end 0 ≡ x → FieldAt xs at part x
  field_here x some lt close =
      let above : at < end = elim (cases_order at end) [ inl e ↦ absurd (some (sym e)) | inr (inl l) ↦ l | inr (inr l) ↦ absurd (omega (arith, f.after)) ] in
      let m : drop end xs ≡ x ∷ drop (end + 1) xs = drop_more xs end 0 lt ∙ ap (λ y. y ∷ drop (end + 1) xs) close in
      let d : drop (end - at) (drop at xs) ≡ drop end xs = drop-drop (end - at) at xs ∙ ap (λ n. drop n xs) (omega (arith, f.after)) in
      record {
        word = (omega (arith, length_part, f.after, above), part_plain);
        is = sym (take-append-drop (end - at) (drop at xs)) ∙ ap (λ t. part ++ t) (d ∙ (m ∙ ap (λ n. x ∷ drop n xs) past_here));
      }

  -- a text has one field at a place
  same_end : (x : ℕ) (g : List ℕ) → (Plain x → ⊥) → FieldAt xs at g x → end ≡ at + length g
  same_end x g stop b = elim (cases_order end (at + length g)) [
    | inl e ↦ e
    | inr (inl l) ↦ absurd (f.stops (omega (arith, field_within b))
        (subst (λ n. Plain (get_or xs n 0)) (omega (arith, f.after)) (plain_at b (end - at) (omega (arith, f.after)))))
    | inr (inr l) ↦ absurd (stop (subst Plain (close_at b) (f.plain (at + length g) (omega arith) l)))
  ]

  pub no_field_here : (x : ℕ) → (Plain x → ⊥) → (end ≡ at) ⊎ ((end ≡ length xs) ⊎ (get_or xs end 0 ≡ x → ⊥)) → NoFieldAt xs at x
  no_field_here x stop why g b =
      let e : end ≡ at + length g = same_end x g stop b in
      elim why [
        | inl z ↦ omega (arith, b.word.0)
        | inr (inl z) ↦ omega (arith, field_within b)
        | inr (inr z) ↦ z (ap (λ n. get_or xs n 0) e ∙ close_at b)
      ]

-- ---- the same, where the plain bytes were counted from a place on

pub end_from : (xs : List ℕ) (at end : ℕ) → at ≤ length xs → FieldEnd (drop at xs) 0 end → FieldEnd xs at (at + end)
end_from xs at end l f =
    let d : length (drop at xs) ≡ length xs - at = length-drop at xs in
    record {
      after = omega arith;
      within = omega (arith, f.within);
      plain = λ k low high. subst Plain (get_or-drop at xs (k - at) 0 ∙ ap (λ n. get_or xs n 0) (omega arith)) (f.plain (k - at) (omega arith) (omega arith));
      stops = λ lt p. f.stops (omega arith) (subst Plain (sym (get_or-drop at xs end 0)) p);
    }

-- the text ends with them
pub none_here : (xs : List ℕ) (at x : ℕ) → at ≤ length xs → (Plain x → ⊥) → FieldEnd (drop at xs) 0 (length (drop at xs)) → NoFieldAt xs at x
none_here xs at x l stop f =
    no_field_here xs at (at + length (drop at xs)) (end_from xs at (length (drop at xs)) l f) x stop (inr (inl (omega (arith, length-drop at xs))))

-- there is no such byte, or another one ends them
pub other_here : (xs : List ℕ) (at end x : ℕ) → at ≤ length xs → (Plain x → ⊥) → FieldEnd (drop at xs) 0 end → (end ≡ 0) ⊎ (get_or (drop at xs) end 0 ≡ x → ⊥) → NoFieldAt xs at x
other_here xs at end x l stop f why = no_field_here xs at (at + end) (end_from xs at end l f) x stop (elim why [
  | inl z ↦ inl (omega arith)
  | inr other ↦ inr (inr (λ e. other (get_or-drop at xs end 0 ∙ e)))
])

-- no byte from a place on ends a field
pub none_left : (xs : List ℕ) (at x : ℕ) → (Plain x → ⊥) → AllPlain (drop at xs) → NoFieldAt xs at x
none_left xs at x stop plain g b =
    stop (subst Plain (get_or-drop at xs (length g) 0 ∙ close_at b) (plain (length g) (omega (arith, field_within b, length-drop at xs))))

-- ---- a text is split at its first space or line break in one way

split_once : (f g r s : List ℕ) (x y : ℕ) → AllPlain f → AllPlain g → (Plain x → ⊥) → (Plain y → ⊥) → f ++ (x ∷ r) ≡ g ++ (y ∷ s) → f ≡ g
split_once [] [] r s x y p q n m e = refl
split_once [] (b ∷ g) r s x y p q n m e = let same : b ≡ x = cc in absurd (n (subst Plain same (q 0 (omega arith))))
split_once (a ∷ f) [] r s x y p q n m e = let same : a ≡ y = cc in absurd (m (subst Plain same (p 0 (omega arith))))
split_once (a ∷ f) (b ∷ g) r s x y p q n m e =
    let t = split_once f g r s x y (λ k h. p (suc k) (omega arith)) (λ k h. q (suc k) (omega arith)) n m (cc) in
    let h : a ≡ b = cc in
    cc

pub same_field : {t f g : List ℕ} {p x : ℕ} → (Plain x → ⊥) → FieldAt t p f x → FieldAt t p g x → f ≡ g
same_field n b d = split_once _ _ _ _ _ _ b.word.1 d.word.1 n n (sym b.is ∙ d.is)
