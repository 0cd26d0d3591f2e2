-- What a rule means. B tells of each set of literals whether it breaks the rule, M of each switch whether the rule mentions it.
--   Grows        the first law of every kind of rule
--   Ignores      the second
--   Forces       the rule forces a literal from a set
--   Before       one literal comes before another
--   First        the first of the forced literals
--   FirstForced  the first forced literal, or that there is none
--   Silent       the rule is neither broken nor forces a literal
use Rattle.std.specs.Prelude.{◌≡◌, ℕ, ◌<◌, Bool, true, false, ◌⊎◌, Some, None, Option}
use Rattle.literals.specs.declared.literal.Literal.{Literal}
use Rattle.literals.specs.declared.setting.Setting.{Setting}
use Rattle.literals.specs.Literals.{opposite}
use Rattle.literals.specs.Settings.{stands, free, plus, ◌⊆◌}

-- a set that contains a breaking set breaks the rule too
abbrev pub Grows : (Setting → Bool) → Type 0
Grows B = (s t : Setting) → s ⊆ t → B s ≡ true → B t ≡ true

-- a breaking set still breaks the rule when literals of switches that it does not mention are left out
abbrev pub Ignores : (ℕ → Bool) → (Setting → Bool) → Type 0
Ignores M B =
    (s t : Setting) → t ⊆ s → ((l : Literal) → M l.switch ≡ true → stands s l ≡ true → stands t l ≡ true) → B s ≡ true → B t ≡ true

-- s does not break the rule, the switch of l is free, and s with the opposite of l added breaks it
pub record Forces (B : Setting → Bool) (s : Setting) (l : Literal) : Type 0 where
  pub unbroken : B s ≡ false
  pub free : free s l ≡ true
  pub against : B (plus s (opposite l)) ≡ true

-- a lower switch, or the same switch, on before off
abbrev pub Before : Literal → Literal → Type 0
Before k l = (k.switch < l.switch) ⊎ ((k.switch ≡ l.switch) × (k.on ≡ true) × (l.on ≡ false))

pub record First (B : Setting → Bool) (s : Setting) (l : Literal) : Type 0 where
  pub forced : Forces B s l
  pub lowest : (k : Literal) → Before k l → Forces B s k → ⊥

abbrev pub FirstForced : (Setting → Bool) → Setting → Option Literal → Type 0
FirstForced B s None = (l : Literal) → Forces B s l → ⊥
FirstForced B s (Some l) = First B s l

pub record Silent (B : Setting → Bool) (s : Setting) : Type 0 where
  pub unbroken : B s ≡ false
  pub still : (l : Literal) → Forces B s l → ⊥
