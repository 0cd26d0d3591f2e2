-- What a list of rules has to say of a set. The rules are of any type R, and `breaks` gives the sets that break each.
--   Numbered  rule number r of a list
--   Lowest    the lowest rule that is not silent
--   Scans     what the scan tells
use Rattle.std.specs.Prelude.{◌≡◌, ℕ, suc, ◌<◌, Bool, true, List, ◌∷◌}
use Rattle.literals.specs.declared.setting.Setting.{Setting}
use Rattle.rules.specs.Rules.{First, Silent}
use Rattle.rules.specs.declared.Verdict.{Verdict}
use Rattle.rules.specs.declared.Verdict.TheVariants.{Quiet, Broken, Forced}

-- rules are numbered from 1
pub data Numbered {R : Type 0} : List R → ℕ → R → Type 0 where
  first : {x : R} {xs : List R} → Numbered (x ∷ xs) 1 x
  later : {x y : R} {xs : List R} {r : ℕ} → Numbered xs r x → Numbered (y ∷ xs) (suc r) x

-- rule r has P, and every rule before it is silent
pub record Lowest {R : Type 0} (breaks : R → Setting → Bool) (rules : List R) (s : Setting) (r : ℕ) (P : R → Type 0) : Type 0 where
  pub rule : R
  pub numbered : Numbered rules r rule
  pub here : P rule
  pub before : (q : ℕ) (x : R) → Numbered rules q x → q < r → Silent (breaks x) s

-- the lowest-numbered rule that is broken or forces a literal: as broken, or with its first forced literal; else quiet
abbrev pub Scans : {R : Type 0} → (R → Setting → Bool) → List R → Setting → Verdict → Type 0
Scans {R} breaks rules s Quiet = (q : ℕ) (x : R) → Numbered rules q x → Silent (breaks x) s
Scans breaks rules s (Broken r) = Lowest breaks rules s r (λ x. breaks x s ≡ true)
Scans breaks rules s (Forced r l) = Lowest breaks rules s r (λ x. First (breaks x) s l)
