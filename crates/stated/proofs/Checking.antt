-- The weights of a clause that a book states, tried one after the other.
use Rattle.std.proofs.Common.{◌≡◌, ℕ, ◌+◌, ◌<◌, Bool, true, not, ◌||◌, eqb, List, [], ◌∷◌, length, get_or, drop, refl, ap, ◌∙◌}
use Rattle.std.specs.List.{list_any}
use Rattle.std.proofs.lemmas.List.{at_drop_more}
use Rattle.std.proofs.lemmas.Bool.{eq-eqb, ne_eqb, or_left}
use Rattle.stated.specs.Checks.{not_ones}

pub any_not_one : (ws : List ℕ) → list_any (λ (w : ℕ). not (eqb w 1)) ws ≡ not_ones ws
any_not_one [] = refl
any_not_one (w ∷ ws) = ap (λ (b : Bool). not (eqb w 1) || b) (any_not_one ws)

-- ---- the same, weight by weight

not_ones_more : (ws : List ℕ) (i : ℕ) → i < length ws → not_ones (drop i ws) ≡ (not (eqb (get_or ws i 0) 1) || not_ones (drop (i + 1) ws))
not_ones_more ws i lt = at_drop_more not_ones ws i 0 lt

pub other_weight : (ws : List ℕ) (i : ℕ) → i < length ws → (get_or ws i 0 ≡ 1 → ⊥) → not_ones (drop i ws) ≡ true
other_weight ws i lt ne = not_ones_more ws i lt ∙ or_left _ _ (ap not (ne_eqb _ _ ne))

pub one_more : (ws : List ℕ) (i : ℕ) → i < length ws → get_or ws i 0 ≡ 1 → not_ones (drop i ws) ≡ not_ones (drop (i + 1) ws)
one_more ws i lt is = not_ones_more ws i lt ∙ ap (λ (b : Bool). not b || not_ones (drop (i + 1) ws)) (eq-eqb _ _ is)
