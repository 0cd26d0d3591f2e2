-- What a shelf means: a list of rules, and the literals told.
--   Meaning          what a rule of a shelf means
--   Lawful           that it has the two laws of every rule
--   Every            something holds of every rule of a list
--   OfRule           something holds of rule number r
--   Answers          what a shelf answers for a set
--   Match            two lists of rules match
--   shut             the rule of a shelf that fails shut
--   capped           rules, unless there are too many
--   letter_checks    what is checked before a letter is told
--   mention_checks   what is checked before it is told whether a rule mentions a switch
use Rattle.std.specs.Prelude.{◌≡◌, ℕ, Bool, true, false, cond, ◌||◌, List, [], ◌∷◌, length, nat_lt}
use Rattle.literals.specs.declared.refusal.Refusal.TheVariants.{OutOfRange, NoSuchPlace}
use Rattle.literals.specs.declared.setting.Setting.{Setting}
use Rattle.literals.specs.Literals.{no_switch}
use Rattle.literals.specs.Refusals.{Check, check}
use Rattle.rules.specs.declared.Verdict.{Verdict}
use Rattle.rules.specs.Rules.{Grows, Ignores}
use Rattle.rules.specs.Scans.{Numbered, Scans}

-- a rule: the sets that break it, the switches that it mentions, the letter of the shelf that holds it
pub record Meaning : Type 0 where
  pub breaks : Setting → Bool
  pub mentions : ℕ → Bool
  pub letter : ℕ

pub record Lawful (m : Meaning) : Type 0 where
  pub grows : Grows m.breaks
  pub ignores : Ignores m.mentions m.breaks

abbrev pub Every : List Meaning → (Meaning → Type 0) → Type 0
Every rules P = (r : ℕ) (m : Meaning) → Numbered rules r m → P m

pub record OfRule (rules : List Meaning) (r : ℕ) (P : Meaning → Type 0) : Type 0 where
  pub rule : Meaning
  pub numbered : Numbered rules r rule
  pub is : P rule

-- what a scan of the rules gives
abbrev pub Answers : List Meaning → Setting → Verdict → Type 0
Answers rules s v = Scans (λ m. m.breaks) rules s v

-- for each rule of either list the other has one that is broken by exactly the same sets
pub record Match (rules others : List Meaning) : Type 0 where
  pub there : Every rules (λ m. (q : ℕ) × (n : Meaning) × Numbered others q n × ((s : Setting) → m.breaks s ≡ n.breaks s))
  pub back : Every others (λ m. (q : ℕ) × (n : Meaning) × Numbered rules q n × ((s : Setting) → m.breaks s ≡ n.breaks s))

-- every set breaks it, and it mentions no switch
abbrev pub shut : ℕ → Meaning
shut letter = record { breaks = λ _. true; mentions = λ _. false; letter = letter }

-- more than 1,024 rules count as the one rule that fails shut
abbrev pub capped : ℕ → List Meaning → List Meaning
capped letter rules = cond (nat_lt 1024 (length rules)) (shut letter ∷ []) rules

abbrev pub no_rule : List Meaning → ℕ → Bool
no_rule rules r = nat_lt r 1 || nat_lt (length rules) r

abbrev pub letter_checks : List Meaning → ℕ → List Check
letter_checks rules r = check (no_rule rules r) NoSuchPlace ∷ []

abbrev pub mention_checks : List Meaning → ℕ → ℕ → List Check
mention_checks rules r n = check (no_switch n) OutOfRange ∷ check (no_rule rules r) NoSuchPlace ∷ []
