-- What dropping the steps above a level leans on.
use Rattle.std.proofs.Common.{◌≡◌, ℕ, zero, suc, ◌+◌, ◌-◌, ◌<◌, ◌≤◌, Bool, true, false, cond, leb, List, [], ◌∷◌, ◌++◌, length, get_or, take, refl, sym, ap, ◌∙◌, subst, arith}
use Rattle.std.proofs.lemmas.Bool.Decides.{nat_tests}
use Rattle.std.proofs.lemmas.List.{length-map, take_more, take-map, get_or-map}
use Rattle.literals.specs.declared.setting.Setting.{Setting}
use Rattle.literals.specs.Settings.{minus, set_of}
use Rattle.lists.specs.Lists.{distinct}
use Rattle.rules.proofs.Numbers.{numbered_at, numbered_low}
use Rattle.told.proofs.Telling.{back_one}
use Rattle.runs.specs.declared.step.Step.{Step}
use Rattle.runs.specs.Views.{literals_on, standing, up_to}
use Rattle.runs.proofs.Levels.{above}
use Rattle.session.specs.Logs.{Front}

-- what is above level k from place n on is not at level k or below
none_from : (k : ℕ) (t : List Step) (n : ℕ) → ((i : ℕ) (x : Step) → n ≤ i → i < length t → k < (get_or t i x).level) → up_to k (take n t) ≡ up_to k t
none_from k [] zero h = refl
none_from k [] (suc n) h = refl
none_from k (x ∷ t) zero h =
    let high : leb x.level k ≡ false = grind (arith, nat_tests, h 0 x (omega arith) (omega arith)) in
    none_from k t zero (λ i y p q. h (suc i) y (omega arith) (omega arith)) ∙ ap (λ (b : Bool). cond b (x ∷ up_to k t) (up_to k t)) (sym high)
none_from k (x ∷ t) (suc n) h =
    ap (λ (u : List Step). cond (leb x.level k) (x ∷ u) u) (none_from k t n (λ i y p q. h (suc i) y (omega arith) (omega arith)))

pub front_from : (k : ℕ) (t : List Step) (n : ℕ) → n ≤ length t → ((i : ℕ) (x : Step) → n ≤ i → i < length t → k < (get_or t i x).level)
    → ((x : Step) → 0 < n → (get_or t (n - 1) x).level ≤ k) → Front k t n
front_from k t n few high low =
    record {
      few = few;
      all = none_from k t n high;
      last = λ x m. let p = numbered_low m in subst (λ (y : Step). y.level ≤ k) (numbered_at m x) (low x (omega arith));
    }

-- ---- a front that is looked for from the back, place by place

module _ (k : ℕ) (t : List Step) (n : ℕ) where
  -- the last of the first n
  pub last_step : (x : Step) → 0 < n → n ≤ length t → x ≡ get_or t (n - 1) x → take n t ≡ take (n - 1) t ++ x ∷ []
  last_step x p q is =
      let z : n - 1 + 1 ≡ n = omega arith in
      ap (λ (i : ℕ). take i t) (sym z) ∙ take_more t (n - 1) x (omega arith) ∙ ap (λ (y : Step). take (n - 1) t ++ y ∷ []) (sym is)

  pub front_less : (x : Step) → 0 < n → n ≤ length t → x ≡ get_or t (n - 1) x → k < (get_or t (n - 1) x).level → up_to k (take n t) ≡ up_to k t → up_to k (take (n - 1) t) ≡ up_to k t
  front_less x p q is high e = sym (above k (take (n - 1) t) x (subst (λ (y : Step). k < y.level) (sym is) high)) ∙ ap (up_to k) (sym (last_step x p q is)) ∙ e

  pub front_none : n ≡ 0 → n ≤ length t → up_to k (take n t) ≡ up_to k t → Front k t n
  front_none z q e = record { few = q; all = e; last = λ x m. let low = numbered_low m in absurd (omega arith) }

  pub front_here : (x : Step) → n ≤ length t → x ≡ get_or t (n - 1) x → (get_or t (n - 1) x).level ≤ k → up_to k (take n t) ≡ up_to k t → Front k t n
  front_here x q is low e =
      record { few = q; all = e; last = λ y m. subst (λ (z : Step). z.level ≤ k) (numbered_at m x) low }

-- one literal taken out of the set of the first n steps
pub set_less : (t : List Step) (n : ℕ) (x : Step) (s s' : Setting) → distinct (literals_on t) ≡ true → 0 < n → n ≤ length t → x ≡ get_or t (n - 1) x
    → s ≡ standing (take n t) → s' ≡ minus s x.literal → s' ≡ standing (take (n - 1) t)
set_less t n x s s' d p q is e f =
    let long : length (literals_on t) ≡ length t = length-map t (λ (y : Step). y.literal) in
    back_one (literals_on t) n x.literal s s' d p (omega arith) at (e ∙ ap set_of (sym (take-map (λ (y : Step). y.literal) n t))) f
    ∙ ap set_of (take-map (λ (y : Step). y.literal) (n - 1) t)
  where
    at : x.literal ≡ get_or (literals_on t) (n - 1) x.literal
    at = ap (λ (y : Step). y.literal) is ∙ sym (get_or-map (λ (y : Step). y.literal) t (n - 1) x x.literal (omega arith))
