-- Of the terms of a rule the first 17 are kept.
use Rattle.std.proofs.Common.{◌≡◌, ◌<◌, ◌≤◌, ◌↔◌, List, [], ◌∷◌, ◌++◌, map, length, take, Ok, Err, Result, IsOk, OnOk, OnErr, sym, ap, ◌∙◌, ap₂, arith, rules}
use Rattle.std.proofs.lemmas.List.{length-take, length-map, length_push, map_push, take_all, take-append-le}
use Rattle.bounded.specs.Held.{held}
use Rattle.bounded.specs.declared.bounded.Bounded.{Bounded}
use Rattle.bounded.specs.declared.full.Full.{Full}

module _ {X Y : Type 0} (f : X → Y) (ys : List X) (y : X) (xs : List Y) (is : xs ≡ map f (take 17 ys)) where
  kept-length : length xs ≡ length (take 17 ys)
  kept-length = ap length is ∙ length-map (take 17 ys) f

  -- where 17 are kept, one more changes nothing
  pub kept_full : 17 ≤ length xs → xs ≡ map f (take 17 (ys ++ (y ∷ [])))
  kept_full many =
      let k = kept-length in
      let m = length-take 17 ys in
      is ∙ ap (map f) (sym (take-append-le 17 ys (y ∷ []) (omega arith)))

  -- where fewer are kept, all are
  pub kept_more : (z : Y) → length xs < 17 → z ≡ f y → xs ++ (z ∷ []) ≡ map f (take 17 (ys ++ (y ∷ [])))
  kept_more z few e =
      let k = kept-length in
      let m = length-take 17 ys in
      let all : take 17 ys ≡ ys = take_all 17 ys (omega arith) in
      let more : take 17 (ys ++ (y ∷ [])) ≡ ys ++ (y ∷ []) = take_all 17 (ys ++ (y ∷ [])) (omega (arith, length_push ys y)) in
      ap₂ (λ us v. us ++ (v ∷ [])) (is ∙ ap (map f) all) e ∙ (sym (map_push f ys y) ∙ ap (map f) (sym more))

-- a push keeps one more where there is room, and else nothing more
pub kept_push : {X Y : Type 0} (f : X → Y) (ys : List X) (y : X) (z : Y) (b c : Bounded Y 17) (r : Result (Unit {0}) Full) → z ≡ f y
    → (IsOk r ↔ (length (held b) < 17)) → OnOk r (held c ≡ held b ++ z ∷ []) → OnErr r (c ≡ b)
    → held b ≡ map f (take 17 ys) → held c ≡ map f (take 17 (ys ++ (y ∷ [])))
kept_push f ys y z b c (Ok u) e room pushed full is = pushed ∙ kept_more f ys y (held b) is z (search rules) e
kept_push f ys y z b c (Err u) e room pushed full is = ap held full ∙ kept_full f ys y (held b) is (search rules)
