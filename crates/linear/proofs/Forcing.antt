-- For a linear rule, to force a literal is to be unbroken and have it free and of a weight above the slack.
use Rattle.std.proofs.Common.{◌≡◌, ℕ, ◌+◌, ◌<◌, ◌≤◌, true, false, not, ◌&&◌, List, pos, Some, None, Decides, Option, sym, ap, ◌∙◌, ⊎_elim, arith}
use lib.Signed.{lt_z}
use Rattle.std.proofs.lemmas.Bool.{and_parts, and_from, not-true, not_from_false, both_ways, ltb-true, ltb-false, lt-ltb}
use Rattle.literals.specs.declared.literal.Literal.{Literal}
use Rattle.literals.specs.declared.setting.Setting.{Setting}
use Rattle.literals.specs.Literals.{opposite}
use Rattle.literals.specs.Settings.{free, plus}
use Rattle.rules.specs.Rules.{Forces, FirstForced}
use Rattle.linear.specs.declared.term.Term.{Term}
use Rattle.lists.specs.Lists.{distinct}
use Rattle.linear.specs.Terms.{literals, counted, weight_of}
use Rattle.linear.specs.Slacks.{slack, broken, above, FirstAbove}
use Rattle.linear.specs.Sums.{below_zero, below_weight, counted_plus}
use Rattle.linear.proofs.Weights.{one_weighs}

module _ (ts : List Term) (d : ℕ) (s : Setting) where
  pub above_forces : (l : Literal) → above ts (slack ts d s) s l ≡ true → Forces (broken ts d) s l
  above_forces l h =
      let parts = and_parts (not (broken ts d s)) (free s l && lt_z (slack ts d s) (pos (weight_of ts l))) h in
      let both = and_parts (free s l) (lt_z (slack ts d s) (pos (weight_of ts l))) parts.1 in
      let lt : counted s ts < weight_of ts l + d = ltb-true _ _ (sym (below_weight (counted s ts) d (weight_of ts l)) ∙ both.1) in
      let sum = counted_plus s l ts both.0 in
      record {
        unbroken = not-true _ parts.0;
        free = both.0;
        against = below_zero (counted (plus s (opposite l)) ts) d ∙ lt-ltb _ _ (omega arith);
      }

  pub forces_above : (l : Literal) → Forces (broken ts d) s l → above ts (slack ts d s) s l ≡ true
  forces_above l f =
      let lt : counted (plus s (opposite l)) ts < d = ltb-true _ _ (sym (below_zero (counted (plus s (opposite l)) ts) d) ∙ f.against) in
      let sum = counted_plus s l ts f.free in
      and_from _ _ (not_from_false _ f.unbroken)
      (and_from _ _ f.free (below_weight (counted s ts) d (weight_of ts l) ∙ lt-ltb _ _ (omega arith)))

  pub decides_forces : (l : Literal) → Decides (above ts (slack ts d s) s l) (Forces (broken ts d) s l)
  decides_forces l = (above_forces l, forces_above l)

  -- the first literal above the slack is the first that is forced
  pub first_forced : distinct (literals ts) ≡ true → (best : Option Literal) → FirstAbove ts (slack ts d s) s best → FirstForced (broken ts d) s best
  first_forced once None h = λ l f. both_ways _ (h l) (forces_above l f)
  first_forced once (Some l) h =
      record {
        forced = above_forces l h.0;
        lowest = λ k b f. ⊎_elim (λ lt. lower (h.1 k (forces_above k f)) lt) (λ e. other k e (weighs k (forces_above k f)) (weighs l h.0)) b;
      }
    where
      lower : {a b : ℕ} → a ≤ b → b < a → ⊥
      lower p q = omega arith

      weighs : (k : Literal) → above ts (slack ts d s) s k ≡ true → 0 < weight_of ts k
      weighs k a =
          let parts = and_parts (not (broken ts d s)) (free s k && lt_z (slack ts d s) (pos (weight_of ts k))) a in
          let both = and_parts (free s k) (lt_z (slack ts d s) (pos (weight_of ts k))) parts.1 in
          let lt : counted s ts < weight_of ts k + d = ltb-true _ _ (sym (below_weight (counted s ts) d (weight_of ts k)) ∙ both.1) in
          let ge : d ≤ counted s ts = ltb-false _ _ (sym (below_zero (counted s ts) d) ∙ not-true _ parts.0) in
          omega arith

      other : (k : Literal) → (k.switch ≡ l.switch) × (k.on ≡ true) × (l.on ≡ false) → 0 < weight_of ts k → 0 < weight_of ts l → ⊥
      other k e p q = both_ways l.on e.2 (sym (ap (λ (m : Literal). m.on) (one_weighs ts k l once p q e.0)) ∙ e.1)
