-- Why a literal stands. Places of a trail are numbered from 1.
--   Leads      one place leads to an earlier one
--   Reaches    a place, and what it leads to, step by step
--   Reason     a chosen switch that a place reaches
--   Meets      a set breaks no rule
--   Still      no rule forces a literal from a set
--   Because    the chosen literals that a place reaches suffice for its literal
--   Explains   what is told of a standing switch
use Rattle.std.specs.Prelude.{◌≡◌, ℕ, ◌-◌, ◌<◌, ◌≤◌, true, false, List, [], ◌∷◌, Some, None, Option, Decides}
use Rattle.bits.specs.Words.{bit}
use Rattle.literals.specs.declared.literal.Literal.{Literal}
use Rattle.literals.specs.declared.refusal.Refusal.TheVariants.{OutOfRange, SwitchFree}
use Rattle.literals.specs.declared.setting.Setting.{Setting}
use Rattle.literals.specs.Literals.{no_switch}
use Rattle.literals.specs.Refusals.{Check, check}
use Rattle.literals.specs.Settings.{stands, free_switch}
use Rattle.rules.specs.Rules.{Forces}
use Rattle.rules.specs.Scans.{Numbered}
use Rattle.shelf.specs.Meanings.{Meaning, Every, OfRule}
use Rattle.runs.specs.declared.step.Step.{Step}
use Rattle.runs.specs.Views.{standing}

-- place i is locked by a rule that mentions the switch of the earlier place j
pub record Leads (rules : List Meaning) (t : List Step) (i j : ℕ) : Type 0 where
  pub from : Step
  pub at : Numbered t i from
  pub to : Step
  pub earlier : j < i
  pub there : Numbered t j to
  pub rule : ℕ
  pub by : from.rule ≡ Some rule
  pub mentions : OfRule rules rule (λ m. m.mentions to.literal.switch ≡ true)

pub data Reaches (rules : List Meaning) (t : List Step) (i : ℕ) : ℕ → Type 0 where
  itself : Reaches rules t i i
  on : {j k : ℕ} → Reaches rules t i j → Leads rules t j k → Reaches rules t i k

-- n is the switch of a place that was chosen and that place i reaches
pub record Reason (rules : List Meaning) (t : List Step) (i n : ℕ) : Type 0 where
  pub place : ℕ
  pub step : Step
  pub at : Numbered t place step
  pub reached : Reaches rules t i place
  pub chosen : step.rule ≡ None
  pub switch : step.literal.switch ≡ n

abbrev pub Meets : List Meaning → Setting → Type 0
Meets rules s = Every rules (λ m. m.breaks s ≡ false)

abbrev pub Still : List Meaning → Setting → Type 0
Still rules s = Every rules (λ m. (l : Literal) → Forces m.breaks s l → ⊥)

-- every unbroken set that forces nothing and holds the chosen literals that a place reaches contains the literal of the place
abbrev pub Because : List Meaning → List Step → Type 0
Because rules t =
    (i : ℕ) (x : Step) → Numbered t i x → (s : Setting) → Meets rules s → Still rules s
    → ((j : ℕ) (y : Step) → Numbered t j y → Reaches rules t i j → y.rule ≡ None → stands s y.literal ≡ true)
    → stands s x.literal ≡ true

-- ---- what is told of a switch

abbrev pub why_checks : List Step → ℕ → List Check
why_checks t n = check (no_switch n) OutOfRange ∷ check (free_switch (standing t) n) SwitchFree ∷ []

-- the set holds the chosen literals of the trail whose switches the word has
abbrev pub HoldsWord : List Step → ℕ → Setting → Type 0
HoldsWord t word s = (j : ℕ) (y : Step) → Numbered t j y → y.rule ≡ None → bit word (y.literal.switch - 1) ≡ true → stands s y.literal ≡ true

-- switch n stands by this rule, none where it was chosen; the word has exactly the chosen switches that it reaches; and every unbroken set
-- that holds those chosen literals and forces nothing contains its literal
pub record Explains (rules : List Meaning) (t : List Step) (n : ℕ) (rule : Option ℕ) (word : ℕ) : Type 0 where
  pub place : ℕ
  pub step : Step
  pub at : Numbered t place step
  pub switch : step.literal.switch ≡ n
  pub by : step.rule ≡ rule
  pub exactly : (m : ℕ) → 1 ≤ m → m ≤ 64 → Decides (bit word (m - 1)) (Reason rules t place m)
  pub because : (s : Setting) → Meets rules s → Still rules s → HoldsWord t word s → stands s step.literal ≡ true
