-- What is told of a standing switch, and of a free one.
use Rattle.std.proofs.Common.{◌≡◌, ℕ, ◌+◌, ◌-◌, ◌<◌, ◌≤◌, Bool, true, false, cond, not, ◌&&◌, ◌||◌, ltb, ◌⊎◌, List, length, get_or, Some, None, Option, Decides, sym, refl, ap, ◌∙◌, subst, inl, inr, ⊎_elim, arith}
use Rattle.std.proofs.lemmas.Bool.{le-ltb, or_from}
use Rattle.std.proofs.Props.{props}
use Rattle.std.proofs.Math.Logic.{∥∥₁_elim}
use Rattle.bits.specs.Words.{bit}
use Rattle.literals.specs.declared.literal.Literal.{Literal}
use Rattle.literals.specs.declared.refusal.Refusal.TheVariants.{OutOfRange, SwitchFree}
use Rattle.literals.specs.declared.setting.Setting.{Setting}
use Rattle.literals.specs.Literals.{opposite, no_switch}
use Rattle.literals.specs.Refusals.{first_failed}
use Rattle.literals.specs.Settings.{stands, free, free_switch}
use Rattle.literals.proofs.Freedom.{free_is}
use Rattle.lists.specs.Lists.{distinct, mentioned}
use Rattle.lists.proofs.Sets.{set_free}
use Rattle.rules.specs.Scans.{Numbered}
use Rattle.rules.proofs.Numbers.{numbered_low, numbered_high, numbered_at}
use Rattle.shelf.specs.Meanings.{Meaning, Lawful, Every}
use Rattle.runs.specs.declared.step.Step.{Step}
use Rattle.runs.specs.Views.{literals_on, standing}
use Rattle.runs.specs.Reasons.{Reason, Because, Explains, why_checks}
use Rattle.runs.specs.Runs.{Traced}
use Rattle.runs.proofs.Because.{because}
use Rattle.runs.proofs.Keeping.{run_keeps}
use Rattle.runs.proofs.Trails.{once}
use Rattle.reasons.specs.Whys.{Collected}
use Rattle.reasons.proofs.Marking.{place_mentioned}

-- ---- the trail of a session

pub trail_once : (rules : List Meaning) (t : List Step) → ∥ Traced rules t ∥₁ → distinct (literals_on t) ≡ true
trail_once rules t some = ∥∥₁_elim some (hlevel props) (λ h. subst (λ (u : List Step). distinct (literals_on u) ≡ true) h.trail (once rules (run_keeps rules h.run).trail))

pub trail_because : (rules : List Meaning) (t : List Step) → Every rules Lawful → ∥ Traced rules t ∥₁ → Because rules t
trail_because rules t lawful some = ∥∥₁_elim some (hlevel props) (λ h. subst (Because rules) h.trail (because rules lawful (run_keeps rules h.run).trail))

-- ---- free or not

module _ (t : List Step) (n : ℕ) (low : 1 ≤ n) (high : n ≤ 64) where
  switch : no_switch n ≡ false
  switch = neither (ltb n 1) (ltb 64 n) (le-ltb n 1 low) (le-ltb 64 n high)
    where
      neither : (a b : Bool) → a ≡ false → b ≡ false → (a || b) ≡ false
      neither a b p q = or_from a b p q

  -- a literal of the switch
  abbrev on_literal : Literal
  on_literal = record { switch = n; on = true; range = (low, high) }

  free_unless : free_switch (standing t) n ≡ not (mentioned (literals_on t) n)
  free_unless = sym (free_is (standing t) on_literal) ∙ set_free (literals_on t) on_literal

  pub free_refused : mentioned (literals_on t) n ≡ false → Some SwitchFree ≡ first_failed (why_checks t n)
  free_refused h = refused (no_switch n) (free_switch (standing t) n) switch (free_unless ∙ ap not h)
    where
      refused : (a b : Bool) → a ≡ false → b ≡ true → Some SwitchFree ≡ cond a (Some OutOfRange) (cond b (Some SwitchFree) None)
      refused a b p q = grind arith

  pub standing_told : (i : ℕ) (x : Step) → Numbered t i x → x.literal.switch ≡ n → None ≡ first_failed (why_checks t n)
  standing_told i x at e = told (no_switch n) (free_switch (standing t) n) switch (free_unless ∙ ap not (ap (mentioned (literals_on t)) (sym e) ∙ place_mentioned at))
    where
      told : (a b : Bool) → a ≡ false → b ≡ false → None ≡ cond a (Some OutOfRange) (cond b (Some SwitchFree) None)
      told a b p q = grind arith

-- ---- the word

module _ (rules : List Meaning) (t : List Step) (place word : ℕ) (chosen : Setting) (collected : Collected rules t place 0 chosen) (says : (n : ℕ) → bit word (n - 1) ≡ not (free_switch chosen n)) where
  reason : (m : ℕ) (l : Literal) → l.switch ≡ m → stands chosen l ≡ true → Reason rules t place m
  reason m l e h =
      let c = (collected l).0 h in
      record { place = c.place; step = c.step; at = c.at; reached = c.reached; chosen = c.chosen; switch = ap (λ (k : Literal). k.switch) c.is ∙ e }

  not_free : (s : Setting) (l : Literal) → free s l ≡ false → (stands s l ≡ true) ⊎ (stands s (opposite l) ≡ true)
  not_free s l h = either (stands s l) (stands s (opposite l)) h
    where
      either : (a b : Bool) → (not a && not b) ≡ false → (a ≡ true) ⊎ (b ≡ true)
      either true b e = inl refl
      either false true e = inr refl
      either false false e = absurd cc

  exactly : (m : ℕ) → 1 ≤ m → m ≤ 64 → Decides (bit word (m - 1)) (Reason rules t place m)
  exactly m low high =
      let l : Literal = record { switch = m; on = true; range = (low, high) } in (
        (λ h. ⊎_elim (reason m l refl) (reason m (opposite l) refl) (not_free chosen l (free_is chosen l ∙ inverse (free_switch chosen m) (sym (says m) ∙ h)))),
        (λ (r : Reason rules t place m). says m ∙ ap not (stood r)),
      )
    where
      inverse : (b : Bool) → not b ≡ true → b ≡ false
      inverse b e = grind arith

      taken : (a b : Bool) → a ≡ true → (not a && not b) ≡ false
      taken a b e = grind arith

      stood : Reason rules t place m → free_switch chosen m ≡ false
      stood r =
          let l = r.step.literal in
          let h : stands chosen l ≡ true
          = (collected l).1 (record { place = r.place; step = r.step; at = r.at; behind = numbered_low r.at; is = refl; chosen = r.chosen; reached = r.reached }) in
          rw (sym r.switch) (sym (free_is chosen l) ∙ taken (stands chosen l) (stands chosen (opposite l)) h)

  pub explains : (n : ℕ) (rule : Option ℕ) (x : Step) → Because rules t → Numbered t place x → x.literal.switch ≡ n → x.rule ≡ rule → Explains rules t n rule word
  explains n rule x b at e by =
      record {
        place = place;
        step = x;
        at = at;
        switch = e;
        by = by;
        exactly = exactly;
        because = λ s meets still holds. b place x at s meets still
            (λ j y m reach z. holds j y m z ((exactly y.literal.switch y.literal.range.0 y.literal.range.1).1
            (record { place = j; step = y; at = m; reached = reach; chosen = z; switch = refl })));
      }

-- ---- the place found, told from its parts

-- the place found is one of the trail
pub place_within : (t : List Step) (i n : ℕ) → ((x : Step) × Numbered t (i + 1) x × (x.literal.switch ≡ n)) → i < length t
place_within t i n h = let high = numbered_high h.1 in omega arith

pub place_step : (t : List Step) (i : ℕ) (x d : Step) → Numbered t (i + 1) x → x ≡ get_or t i d
place_step t i x d at = let e : (i + 1) - 1 ≡ i = omega arith in sym (numbered_at at d) ∙ ap (λ (k : ℕ). get_or t k d) e
