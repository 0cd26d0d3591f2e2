-- A list written place by place, each from the same place of another, or such that a part of each is what stands there.
use Rattle.std.proofs.Common.{◌≡◌, ℕ, ◌+◌, ◌<◌, ◌≤◌, List, [], ◌∷◌, ◌++◌, map, length, get_or, take, set, sym, ap, ◌∙◌, arith, take_all}
use Rattle.std.proofs.lemmas.List.{map_more, length-map, length-take-le, map_push, take_more, take_more_set}

module _ {X Y : Type 0} (f : X → Y) (xs : List X) (ys : List Y) (i : ℕ) where
  pub mapped_more : (x : X) (y : Y) → i < length xs → i < length ys → x ≡ get_or xs i x → y ≡ f x → take i ys ≡ map f (take i xs)
      → take (i + 1) (set ys i y) ≡ map f (take (i + 1) xs)
  mapped_more x y lt room is e h =
      take_more_set ys i y room ∙ ap (λ (zs : List Y). zs ++ (y ∷ [])) h ∙ ap (λ (z : Y). map f (take i xs) ++ (z ∷ [])) (e ∙ ap f is) ∙ sym (map_more f xs i x lt)

  pub mapped_all : (n : ℕ) → n ≡ length xs → i ≤ length xs → length xs ≤ i → take i ys ≡ map f (take i xs) → take n ys ≡ map f xs
  mapped_all n is le ge h = let e : n ≡ i = omega arith in ap (λ (k : ℕ). take k ys) e ∙ h ∙ ap (map f) (take_all i xs ge)

module _ {X Y : Type 0} (f : Y → X) (xs : List X) (ys : List Y) (i : ℕ) where
  pub part_more : (x : X) (y : Y) → i < length xs → i < length ys → x ≡ get_or xs i x → f y ≡ x → map f (take i ys) ≡ take i xs
      → map f (take (i + 1) (set ys i y)) ≡ take (i + 1) xs
  part_more x y lt room is e h =
      ap (map f) (take_more_set ys i y room) ∙ map_push f (take i ys) y
      ∙ ap (λ (zs : List X). zs ++ (f y ∷ [])) h ∙ ap (λ (z : X). take i xs ++ (z ∷ [])) (e ∙ is) ∙ sym (take_more xs i x lt)

  pub part_all : (n : ℕ) → n ≡ length xs → i ≤ length xs → length xs ≤ i → map f (take i ys) ≡ take i xs → map f (take n ys) ≡ xs
  part_all n is le ge h = let e : n ≡ i = omega arith in ap (λ (k : ℕ). map f (take k ys)) e ∙ h ∙ take_all i xs ge

-- ---- the same, of a list to which elements are pushed

module _ {X Y : Type 0} (f : Y → X) (xs : List X) (ys ys' : List Y) (i : ℕ) where
  pub part_pushed : (x : X) (y : Y) → i < length xs → x ≡ get_or xs i x → f y ≡ x → map f ys ≡ take i xs → ys' ≡ ys ++ y ∷ [] → map f ys' ≡ take (i + 1) xs
  part_pushed x y lt is e h p =
      ap (map f) p ∙ map_push f ys y ∙ ap (λ (zs : List X). zs ++ (f y ∷ [])) h ∙ ap (λ (z : X). take i xs ++ (z ∷ [])) (e ∙ is) ∙ sym (take_more xs i x lt)

pub part_length : {X Y : Type 0} (f : Y → X) (xs : List X) (ys : List Y) (i : ℕ) → i < length xs → map f ys ≡ take i xs → length ys ≡ i
part_length f xs ys i lt h = sym (length-map ys f) ∙ ap length h ∙ length-take-le i xs (omega arith)
