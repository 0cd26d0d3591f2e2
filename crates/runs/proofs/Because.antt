-- A literal of the trail stands in every unbroken set that forces nothing and holds the chosen literals that its place reaches.
use Rattle.std.proofs.Common.{◌≡◌, ℕ, suc, ◌+◌, ◌<◌, Bool, true, false, cond, List, [], ◌∷◌, ◌++◌, length, Some, None, sym, refl, ap, ◌∙◌, ⊎_elim, arith}
use Rattle.literals.specs.declared.literal.Literal.{Literal}
use Rattle.literals.specs.declared.setting.Setting.{Setting}
use Rattle.literals.specs.Literals.{opposite}
use Rattle.literals.specs.Settings.{stands, plus, plus_all, nothing, ◌⊆◌}
use Rattle.literals.proofs.Standing.{nothing-stands, plus-has, plus_keeps, plus_within, plus_cases}
use Rattle.lists.proofs.Members.{plus_all_keeps}
use Rattle.rules.specs.Rules.{Forces}
use Rattle.rules.specs.Scans.{Numbered, first, later}
use Rattle.rules.proofs.Numbers.{numbered_left, append_numbered, numbered_high, numbered_low, numbered_one}
use Rattle.shelf.specs.Meanings.{Meaning, Lawful, Every}
use Rattle.runs.specs.declared.step.Step.{Step}
use Rattle.runs.specs.Views.{literals_on, standing}
use Rattle.runs.specs.Reasons.{Meets, Still, Leads, Reaches, itself, on, Because}
use Rattle.runs.proofs.Trails.{Trail, empty, chose, locked, plus_grows, forced_in}

-- ---- the part of a trail that a rule mentions

abbrev named : Meaning → List Step → List Step
named m [] = []
named m (x ∷ xs) = cond (m.mentions x.literal.switch) (x ∷ named m xs) (named m xs)

all_within : (t : List Step) (s x : Setting) → s ⊆ x → ((j : ℕ) (y : Step) → Numbered t j y → stands x y.literal ≡ true) → plus_all s (literals_on t) ⊆ x
all_within [] s x sub h = sub
all_within (y ∷ t) s x sub h = all_within t (plus s y.literal) x (plus_within s x y.literal sub (h 1 y first)) (λ j z n. h (suc j) z (later n))

-- y is a step of the trail that the rule mentions
abbrev Found : Meaning → List Step → Step → Type 0
Found m t y = ((k : ℕ) × Numbered t k y) × (m.mentions y.literal.switch ≡ true)

found_later : (m : Meaning) (t : List Step) (x y : Step) → Found m t y → Found m (x ∷ t) y
found_later m t x y p = ((suc p.0.0, later p.0.1), p.1)

found_here : (m : Meaning) (t u : List Step) (x y : Step) (i : ℕ) → m.mentions x.literal.switch ≡ true → Numbered (x ∷ u) i y → ((i : ℕ) → Numbered u i y → Found m t y) → Found m (x ∷ t) y
found_here m t u x y i e first ih = ((1, first), e)
found_here m t u x y i e (later {r = k} n) ih = found_later m t x y (ih k n)

-- a step that the rule mentions is found
named_in : (m : Meaning) (t : List Step) (j : ℕ) (y : Step) → Numbered (named m t) j y → Found m t y
named_in m [] j y h = elim h [ ]
named_in m (x ∷ t) j y h = go (m.mentions x.literal.switch) refl h (λ i k. named_in m t i y k)
  where
    go : (b : Bool) → m.mentions x.literal.switch ≡ b → Numbered (cond b (x ∷ named m t) (named m t)) j y → ((i : ℕ) → Numbered (named m t) i y → Found m t y) → Found m (x ∷ t) y
    go true e n ih = found_here m t (named m t) x y j e n ih
    go false e n ih = found_later m t x y (ih j n)

-- a mentioned literal that stands by the whole trail stands by the mentioned steps
named_stands : (m : Meaning) (t : List Step) (s u : Setting) (l : Literal) → m.mentions l.switch ≡ true → (stands s l ≡ true → stands u l ≡ true)
    → stands (plus_all s (literals_on t)) l ≡ true → stands (plus_all u (literals_on (named m t))) l ≡ true
named_stands m [] s u l p f h = f h
named_stands m (x ∷ t) s u l p f h = go (m.mentions x.literal.switch) refl (λ v g. named_stands m t (plus s x.literal) v l p g h)
  where
    go : (b : Bool) → m.mentions x.literal.switch ≡ b
        → ((v : Setting) → (stands (plus s x.literal) l ≡ true → stands v l ≡ true) → stands (plus_all v (literals_on (named m t))) l ≡ true)
        → stands (plus_all u (literals_on (cond b (x ∷ named m t) (named m t)))) l ≡ true
    go true e ih =
        ih (plus u x.literal)
        (λ k. ⊎_elim (λ (q : x.literal ≡ l). rw (sym q) (plus-has u x.literal)) (λ q. plus_keeps u x.literal l (f q)) (plus_cases s x.literal l k))
    go false e ih =
        ih u
        (λ k. ⊎_elim (λ (q : x.literal ≡ l). let same = ap (λ (n : Literal). m.mentions n.switch) q in absurd cc) f (plus_cases s x.literal l k))

place_stands : (t : List Step) (s : Setting) (j : ℕ) (y : Step) → Numbered t j y → stands (plus_all s (literals_on t)) y.literal ≡ true
place_stands [] s j y h = elim h [ ]
place_stands (x ∷ t) s j y first = plus_all_keeps (plus s x.literal) (literals_on t) x.literal (plus-has s x.literal)
place_stands (x ∷ t) s j y (later n) = place_stands t (plus s x.literal) _ y n

none_within : (x : Setting) → nothing ⊆ x
none_within x l h = absurd (cc (nothing-stands l))

named_part : (m : Meaning) (t : List Step) → standing (named m t) ⊆ standing t
named_part m t = all_within (named m t) nothing (standing t) (none_within (standing t)) (λ j y n. let p = named_in m t j y n in place_stands t nothing p.0.0 y p.0.1)

-- ---- what a rule forces stands, where what it mentions of the earlier places stands

module _ (rules : List Meaning) (lawful : Every rules Lawful) (s : Setting) (meets : Meets rules s) (still : Still rules s) where
  forced : (before : List Step) (r : ℕ) (m : Meaning) (l : Literal) → Numbered rules r m → Forces m.breaks (standing before) l
      → ((j : ℕ) (y : Step) → Numbered before j y → m.mentions y.literal.switch ≡ true → stands s y.literal ≡ true) → stands s l ≡ true
  forced before r m l at f h =
      let part : Setting = standing (named m before) in
      let against : m.breaks (plus part (opposite l)) ≡ true
      = (lawful r m at).ignores (plus (standing before) (opposite l)) (plus part (opposite l)) (plus_grows part (standing before) (opposite l) (named_part m before))
      (λ k p q. ⊎_elim (λ (e : opposite l ≡ k). rw (sym e) (plus-has part (opposite l)))
      (λ w. plus_keeps part (opposite l) k (named_stands m before nothing nothing k p (λ z. z) w)) (plus_cases (standing before) (opposite l) k q))
      f.against in
      forced_in rules lawful part s r m l at against
      (all_within (named m before) nothing s (none_within s) (λ j y n. let p = named_in m before j y n in h p.0.0 y p.0.1 p.1)) meets still

  -- ---- by induction along the trail

  -- the place holds where what it reaches on the whole trail t holds
  abbrev StandsBy : List Step → ℕ → Step → Type 0
  StandsBy t i x = ((j : ℕ) (y : Step) → Numbered t j y → Reaches rules t i j → y.rule ≡ None → stands s y.literal ≡ true) → stands s x.literal ≡ true

  follows : (t : List Step) (i j k : ℕ) → Leads rules t i j → Reaches rules t j k → Reaches rules t i k
  follows t i j k e itself = on itself e
  follows t i j k e (on r l) = on (follows t i j _ e r) l

  -- what was proved of the front t of the whole trail goes on to the next place
  module _ (whole : List Step) where
    abbrev Front : List Step → Type 0
    Front t = (j : ℕ) (y : Step) → Numbered t j y → Numbered whole j y

    shorter : (t : List Step) (y : Step) → Front (t ++ y ∷ []) → Front t
    shorter t y h j z n = h j z (numbered_left (y ∷ []) n)

    last_of : (t : List Step) (y x : Step) (i : ℕ) → (q : ℕ) × (i ≡ length t + q) × Numbered (y ∷ []) q x → (x ≡ y) × (length t < i)
    last_of t y x i (q, e, n) = (numbered_one n (only n), let low = numbered_low n in omega arith)
      where
        only : {q : ℕ} {x : Step} → Numbered (y ∷ []) q x → Numbered (y ∷ []) q y
        only first = first
        only (later n) = elim n [ ]

    holds : {c : List Literal} {t : List Step} → Trail rules c t → Front t → (i : ℕ) (x : Step) → Numbered t i x → StandsBy whole i x
    holds empty front i x n = elim n [ ]
    holds (chose {t = t} y back q f e z) front i x n =
        ⊎_elim (λ p. holds back (shorter t y front) i x p)
        (λ p. let l = last_of t y x i p in λ reasons. reasons i x (front i x n) itself (ap (λ (w : Step). w.rule) l.0 ∙ z))
        (append_numbered t (y ∷ []) n)
    holds (locked {t = t} y back r a e z) front i x n =
        ⊎_elim (λ p. holds back (shorter t y front) i x p)
        (λ p. let l = last_of t y x i p in λ reasons.
        let rule = ap (λ (w : Step). w.rule) l.0 ∙ z in
        rw l.0
        (forced t r a.rule y.literal a.numbered a.here.forced
        (λ j w m says. holds back (shorter t y front) j w m
        (λ k v o reach chosen. reasons k v o (follows whole i j k (leads i x (front i x n) j w (front j w (numbered_left (y ∷ []) m)) (before t i j w l.1 m) r rule a.rule a.numbered says) reach) chosen))))
        (append_numbered t (y ∷ []) n)
      where
        before : (t : List Step) (i j : ℕ) (w : Step) → length t < i → Numbered t j w → j < i
        before t i j w h m = let high = numbered_high m in omega arith

        leads : (i : ℕ) (x : Step) → Numbered whole i x → (j : ℕ) (w : Step) → Numbered whole j w → j < i → (r : ℕ) → x.rule ≡ Some r → (m : Meaning) → Numbered rules r m → m.mentions w.literal.switch ≡ true → Leads rules whole i j
        leads i x n j w k lt r by m at says = record { from = x; at = n; to = w; earlier = lt; there = k; rule = r; by = by; mentions = record { rule = m; numbered = at; is = says } }

pub because : (rules : List Meaning) → Every rules Lawful → {c : List Literal} {t : List Step} → Trail rules c t → Because rules t
because rules lawful {t = t} tr i x n s meets still reasons = holds rules lawful s meets still t tr (λ j y k. k) i x n reasons
