-- Going down the trail from a place marks exactly the places that it reaches.
use Rattle.std.proofs.Common.{◌≡◌, ℕ, zero, suc, ◌+◌, ◌-◌, ◌<◌, ◌≤◌, true, false, ◌⊎◌, List, [], ◌∷◌, length, get_or, take, Some, None, sym, refl, ap, ◌∙◌, subst, inl, inr, ⊎_elim, arith}
use Rattle.std.proofs.lemmas.Bool.{cases_eq}
use Rattle.std.proofs.lemmas.List.{length-take-le, take-take}
use Rattle.literals.specs.declared.literal.Literal.{Literal}
use Rattle.literals.specs.declared.setting.Setting.{Setting}
use Rattle.literals.specs.Settings.{stands, plus, nothing}
use Rattle.literals.proofs.Standing.{nothing-stands, plus-has, plus_keeps, plus_cases}
use Rattle.lists.specs.Lists.{distinct}
use Rattle.rules.specs.Scans.{Numbered, first, later}
use Rattle.rules.proofs.Numbers.{numbered_one, numbered_take, at_numbered}
use Rattle.shelf.specs.Meanings.{Meaning}
use Rattle.runs.specs.declared.step.Step.{Step}
use Rattle.runs.specs.Views.{literals_on}
use Rattle.runs.specs.Reasons.{Leads, Reaches, itself, on}
use Rattle.reasons.specs.Whys.{Mentions, Named, Marks, Marked, marked_by, AllMarked, Chosen, Collected, Sought}
use Rattle.reasons.proofs.Marking.{one_place, marks_all}

-- a place of the first k is one of the whole
taken : {R : Type 0} (k : ℕ) (xs : List R) {r : ℕ} {x : R} → Numbered (take k xs) r x → Numbered xs r x × (r ≤ k)
taken zero xs n = elim n [ ]
taken (suc k) [] n = elim n [ ]
taken (suc k) (y ∷ xs) first = (first, omega arith)
taken (suc k) (y ∷ xs) (later n) = let h = taken k xs n in (later h.0, let le = h.1 in omega arith)

module _ (rules : List Meaning) (t : List Step) where
  reaches_low : {p k : ℕ} → Reaches rules t p k → k ≤ p
  reaches_low itself = omega arith
  reaches_low (on r l) = let h = reaches_low r in let e = l.earlier in omega arith

  -- what is reached was marked before it is looked at
  reaches_marked : {p k : ℕ} → Reaches rules t p k → Marked rules t p k k
  reaches_marked itself = inl refl
  reaches_marked (on {j} r l) = inr (j, l.earlier, r, l)

  marked_reaches : {p m k : ℕ} → Marked rules t p m k → Reaches rules t p k
  marked_reaches {p} {m} {k} (inl e) = rw e itself
  marked_reaches (inr (q, h, r, l)) = on r l

  module _ (once : distinct (literals_on t) ≡ true) (p : ℕ) where
    -- ---- at the start only the place itself is marked

    pub starts : (x : Step) → Numbered t p x → AllMarked rules t p p (plus nothing x.literal)
    starts x at k y n = (
      (λ h. ⊎_elim (λ (e : x.literal ≡ y.literal). inl (sym (one_place t once at n (ap (λ (l : Literal). l.switch) e))))
          (λ q. absurd (cc (nothing-stands y.literal))) (plus_cases nothing x.literal y.literal h)),
      (λ h. ⊎_elim (λ (e : k ≡ p). let same : x ≡ y = numbered_one at (rw (sym e) n) in
          rw (sym same) (plus-has nothing x.literal))
          (λ w. let low = reaches_low w.2 in let high = w.1 in absurd (omega arith)) h),
    )

    pub none_yet : Collected rules t p p nothing
    none_yet l = (
      (λ h. absurd (cc (nothing-stands l))),
      (λ (h : Chosen rules t p p l). let low = reaches_low h.reached in let high = h.behind in absurd (omega arith)),
    )

    -- ---- one place further down: place i, with the step x, of which m is the one before

    module _ (m i : ℕ) (x : Step) (next : i ≡ m + 1) (at : Numbered t i x) where
      wider : {k : ℕ} → Marked rules t p i k → Marked rules t p m k
      wider (inl e) = inl e
      wider (inr (q, h, r, l)) = inr (q, omega arith, r, l)

      -- a place behind m is i itself, or behind i
      split : (q : ℕ) → m < q → (q ≡ i) ⊎ (i < q)
      split q h = ⊎_elim inl (λ ne. inr (omega arith)) (cases_eq q i)

      -- where i leads nowhere, or is not reached, nothing more is marked
      same_marked : (s : Setting) → ((k : ℕ) → Reaches rules t p i → Leads rules t i k → ⊥) → AllMarked rules t p i s → AllMarked rules t p m s
      same_marked s dead h k y n = (
        (λ e. wider ((h k y n).0 e)),
        (λ w. (h k y n).1 (narrow w)),
      )
        where
          narrow : Marked rules t p m k → Marked rules t p i k
          narrow (inl e) = inl e
          narrow (inr (q, lt, r, l)) =
              ⊎_elim (λ (e : q ≡ i). absurd (dead k (rw (sym e) r) (rw (sym e) l))) (λ lt'. inr (q, lt', r, l)) (split q lt)

      later_chosen : {l : Literal} → Chosen rules t p i l → Chosen rules t p m l
      later_chosen c = record { place = c.place; step = c.step; at = c.at; behind = let b = c.behind in omega arith; is = c.is; chosen = c.chosen; reached = c.reached }

      same_chosen : (s : Setting) → (Reaches rules t p i → x.rule ≡ None → ⊥) → Collected rules t p i s → Collected rules t p m s
      same_chosen s dead h l = (
        (λ e. later_chosen ((h l).0 e)),
        (λ (c : Chosen rules t p m l). (h l).1 (narrow c)),
      )
        where
          narrow : Chosen rules t p m l → Chosen rules t p i l
          narrow c =
              ⊎_elim (λ (e : c.place ≡ i). absurd (dead (rw (sym e) c.reached)
              (ap (λ (y : Step). y.rule) (numbered_one at (subst (λ (j : ℕ). Numbered t j c.step) e c.at)) ∙ c.chosen)))
              (λ lt. record { place = c.place; step = c.step; at = c.at; behind = lt; is = c.is; chosen = c.chosen; reached = c.reached })
              (split c.place c.behind)

      module _ (marked chosen : Setting) (all : AllMarked rules t p i marked) (some : Collected rules t p i chosen) where
        here : Reaches rules t p i → stands marked x.literal ≡ true
        here r = (all i x at).1 (reaches_marked r)

        pub unmarked : stands marked x.literal ≡ false → AllMarked rules t p m marked × Collected rules t p m chosen
        unmarked e = (same_marked marked (λ k r l. cc (here r)) all, same_chosen chosen (λ r z. cc (here r)) some)

        pub at_chosen : stands marked x.literal ≡ true → x.rule ≡ None → AllMarked rules t p m marked × Collected rules t p m (plus chosen x.literal)
        at_chosen e z = (same_marked marked (λ k r l. nowhere k l) all, grown)
          where
            nowhere : (k : ℕ) → Leads rules t i k → ⊥
            nowhere k l =
                let same : l.from ≡ x = numbered_one l.at at in cc

            itself_chosen : (l : Literal) → x.literal ≡ l → Chosen rules t p m l
            itself_chosen l q = record { place = i; step = x; at = at; behind = omega arith; is = q; chosen = z; reached = marked_reaches ((all i x at).0 e) }

            grown : Collected rules t p m (plus chosen x.literal)
            grown l = (
              (λ h. ⊎_elim (itself_chosen l) (λ q. later_chosen ((some l).0 q)) (plus_cases chosen x.literal l h)),
              (λ (c : Chosen rules t p m l).
                  ⊎_elim (λ (q : c.place ≡ i).
                  let same : x ≡ c.step = numbered_one at (rw (sym q) c.at) in
                  rw (sym (ap (λ (y : Step). y.literal) same ∙ c.is)) (plus-has chosen x.literal))
                  (λ lt. plus_keeps chosen x.literal l ((some l).1 (record { place = c.place; step = c.step; at = c.at; behind = lt; is = c.is; chosen = c.chosen; reached = c.reached })))
                  (split c.place c.behind)),
            )

        pub at_locked : (rule : ℕ) (marked' : Setting) → stands marked x.literal ≡ true → x.rule ≡ Some rule → Marks rules (take m t) rule marked marked'
            → AllMarked rules t p m marked' × Collected rules t p m chosen
        at_locked rule marked' e z marks = (more, same_chosen chosen (λ r q. cc) some)
          where
            more : AllMarked rules t p m marked'
            more k y n = (
              (λ h. ⊎_elim (λ q. wider ((all k y n).0 q)) (λ (w : Named rules (take m t) rule y.literal). led w) ((marks y.literal).0 h)),
              (λ h. back h),
            )
              where
                led : Named rules (take m t) rule y.literal → Marked rules t p m k
                led w =
                    let there = taken m t w.at in
                    let same : w.place ≡ k = one_place t once there.0 n (ap (λ (l : Literal). l.switch) w.is) in
                    let high = there.1 in
                    inr (i, omega arith, marked_reaches ((all i x at).0 e), record { from = x; at = at; to = y; earlier = omega arith; there = n; rule = rule; by = z; mentions = w.mentions })

                back : Marked rules t p m k → stands marked' y.literal ≡ true
                back (inl q) = (marks y.literal).1 (inl ((all k y n).1 (inl q)))
                back (inr (q, lt, r, l)) =
                    ⊎_elim (λ (s : q ≡ i).
                    let from : l.from ≡ x = numbered_one l.at (rw s at) in
                    let to : l.to ≡ y = numbered_one l.there n in
                    let low = l.earlier in
                    let near : k ≤ m = omega arith in
                    let same : l.rule ≡ rule = cc in
                    let says : Mentions rules rule y.literal.switch = rw (sym to, sym same) l.mentions in
                    (marks y.literal).1 (inr (record { place = k; step = y; at = numbered_take m n near; is = refl; mentions = says })))
                    (λ lt'. (marks y.literal).1 (inl ((all k y n).1 (inr (q, lt', r, l)))))
                    (split q lt)

-- ---- what is left of the trail

module _ {rules : List Meaning} {t : List Step} {p : ℕ} (once : distinct (literals_on t) ≡ true) where
  -- at the start the place asked about is the last that is left
  pub sought_first : {i : ℕ} {x : Step} {marked chosen : Setting} → p ≡ i + 1 → i < length t → x ≡ get_or t i x → marked ≡ plus nothing x.literal → chosen ≡ nothing
      → Sought rules t p (take p t) marked chosen
  sought_first {i} {x} {marked} {chosen} e lt is m c =
      let long : length (take p t) ≡ p = length-take-le p t (omega arith) in
      let at : Numbered t p x = rw is (rw e (at_numbered t i x lt)) in
      record {
        front = ap (λ (k : ℕ). take k t) long;
        within = omega (arith, long);
        all = rw (long, m) (starts rules t once p x at);
        some = rw (long, c) (none_yet rules t once p);
      }

  module _ {left : List Step} {x : Step} {marked chosen : Setting} (there : 1 ≤ length left) (is : x ≡ get_or left (length left - 1) x) (s : Sought rules t p left marked chosen) where
    abbrev m : ℕ
    m = length left - 1

    next : length left ≡ m + 1
    next = omega arith

    long : length (take m left) ≡ m
    long = length-take-le m left (omega arith)

    earlier : take m left ≡ take m t
    earlier = ap (take m) (sym s.front) ∙ take-take m (length left) t (omega arith)

    at : Numbered t (length left) x
    at =
        let here : Numbered left (length left) x
        = rw is (subst (λ (k : ℕ). Numbered left k (get_or left m x)) (sym next) (at_numbered left m x (omega arith))) in
        (taken (length left) t (rw s.front here)).0

    sought : {marked' chosen' : Setting} → AllMarked rules t p m marked' × Collected rules t p m chosen' → Sought rules t p (take m left) marked' chosen'
    sought {marked'} {chosen'} both =
        record {
          front = ap (λ (k : ℕ). take k t) long ∙ sym earlier;
          within = let w = s.within in omega (arith, long);
          all = rw long both.0;
          some = rw long both.1;
        }

    pub sought_past : stands marked x.literal ≡ false → Sought rules t p (take m left) marked chosen
    sought_past e = sought (unmarked rules t once p m (length left) x next at marked chosen s.all s.some e)

    pub sought_chosen : {chosen' : Setting} → chosen' ≡ plus chosen x.literal → stands marked x.literal ≡ true → x.rule ≡ None → Sought rules t p (take m left) marked chosen'
    sought_chosen {chosen'} c e z =
        rw c (sought (at_chosen rules t once p m (length left) x next at marked chosen s.all s.some e z))

    pub sought_locked : {marked' : Setting} {rule : ℕ} → marked' ≡ marked_by rules rule (take m left) marked → stands marked x.literal ≡ true → x.rule ≡ Some rule
        → Sought rules t p (take m left) marked' chosen
    sought_locked {marked'} {rule} c e z =
        let marks : Marks rules (take m t) rule marked marked' = rw (sym earlier, c) (marks_all rules rule (take m left) marked) in
        sought (at_locked rules t once p m (length left) x next at marked chosen s.all s.some rule marked' e z marks)
