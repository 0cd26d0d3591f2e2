-- The steps of the search for the reasons of a literal.
--   Mentions       there is such a rule, and it mentions a switch
--   mentioned_by   the same as a test
--   marked_by      what is marked, when a rule has marked what it mentions
--   Marks          the same, literal by literal
--   Marked         what is marked, when the places down to m have been looked at
--   Collected      the chosen literals reached so far
--   Sought         how far the search has come
use Rattle.std.specs.Prelude.{◌≡◌, ℕ, ◌≤◌, length, take, fold, filter, Bool, not, ◌&&◌, ◌-◌, get_or, ◌<◌, true, ◌⊎◌, List, None, Decides}
use Rattle.literals.specs.declared.literal.Literal.{Literal}
use Rattle.literals.specs.declared.setting.Setting.{Setting}
use Rattle.literals.specs.Settings.{stands, plus}
use Rattle.rules.specs.Scans.{Numbered}
use Rattle.shelf.specs.Meanings.{Meaning, OfRule, no_rule, shut}
use Rattle.runs.specs.declared.step.Step.{Step}
use Rattle.runs.specs.Reasons.{Leads, Reaches}

abbrev pub Mentions : List Meaning → ℕ → ℕ → Type 0
Mentions rules rule n = OfRule rules rule (λ m. m.mentions n ≡ true)

abbrev pub mentioned_by : List Meaning → ℕ → ℕ → Bool
mentioned_by rules rule n = not (no_rule rules rule) && (get_or rules (rule - 1) (shut 0)).mentions n

-- l is a literal of the trail that the rule mentions
pub record Named (rules : List Meaning) (t : List Step) (rule : ℕ) (l : Literal) : Type 0 where
  pub place : ℕ
  pub step : Step
  pub at : Numbered t place step
  pub is : step.literal ≡ l
  pub mentions : Mentions rules rule l.switch

-- the marked literals, and those of these steps that the rule mentions
abbrev pub marked_by : List Meaning → ℕ → List Step → Setting → Setting
marked_by rules rule t s = fold (λ r x. plus r x.literal) s (filter (λ x. mentioned_by rules rule x.literal.switch) t)

abbrev pub Marks : List Meaning → List Step → ℕ → Setting → Setting → Type 0
Marks rules t rule s r = (l : Literal) → Decides (stands r l) ((stands s l ≡ true) ⊎ Named rules t rule l)

-- place k is p itself, or a place behind m that p reaches leads to it
abbrev pub Marked : List Meaning → List Step → ℕ → ℕ → ℕ → Type 0
Marked rules t p m k = (k ≡ p) ⊎ ((q : ℕ) × (m < q) × Reaches rules t p q × Leads rules t q k)

abbrev pub AllMarked : List Meaning → List Step → ℕ → ℕ → Setting → Type 0
AllMarked rules t p m s = (k : ℕ) (x : Step) → Numbered t k x → Decides (stands s x.literal) (Marked rules t p m k)

-- l was chosen at a place behind m that p reaches
pub record Chosen (rules : List Meaning) (t : List Step) (p m : ℕ) (l : Literal) : Type 0 where
  pub place : ℕ
  pub step : Step
  pub at : Numbered t place step
  pub behind : m < place
  pub is : step.literal ≡ l
  pub chosen : step.rule ≡ None
  pub reached : Reaches rules t p place

abbrev pub Collected : List Meaning → List Step → ℕ → ℕ → Setting → Type 0
Collected rules t p m s = (l : Literal) → Decides (stands s l) (Chosen rules t p m l)

-- the first places are left, and those behind them have been looked at
pub record Sought (rules : List Meaning) (t : List Step) (p : ℕ) (left : List Step) (marked chosen : Setting) : Type 0 where
  pub front : take (length left) t ≡ left
  pub within : length left ≤ p
  pub all : AllMarked rules t p (length left) marked
  pub some : Collected rules t p (length left) chosen
