-- What a pair leans on, over plain values.
use Rattle.std.proofs.Common.{◌≡◌, ℕ, ◌+◌, ◌-◌, ◌<◌, ◌≤◌, Bool, true, false, cond, ltb, List, [], ◌∷◌, ◌++◌, length, take, ℤ, IfOk, Some, None, Ok, Err, Option, Result, sym, ap, ◌∙◌, subst, arith, MatchResult}
use Rattle.std.proofs.lemmas.List.{length-append}
use Rattle.std.proofs.lemmas.Result.{IfOk-weaker}
use Rattle.std.proofs.lemmas.Bool.{ltb-false}
use Rattle.std.proofs.lemmas.Bool.Decides.{nat_tests}
use Rattle.literals.specs.declared.literal.Literal.{Literal}
use Rattle.literals.specs.declared.refusal.Refusal.{Refusal}
use Rattle.literals.specs.declared.refusal.Refusal.TheVariants.{OutOfRange, NoSuchPlace}
use Rattle.literals.specs.declared.setting.Setting.{Setting}
use Rattle.literals.specs.Literals.{no_switch}
use Rattle.literals.specs.Refusals.{first_failed, refusal_of}
use Rattle.literals.specs.Settings.{set_of}
use Rattle.literals.proofs.Known.{number_same}
use Rattle.rules.specs.declared.Verdict.{Verdict}
use Rattle.rules.specs.declared.Verdict.TheVariants.{Quiet, Broken, Forced}
use Rattle.told.specs.Tellings.{Appended, tell_checks, back_checks}
use Rattle.told.proofs.Telling.{took_back}
use Rattle.shelf.specs.Meanings.{Meaning, Answers, OfRule, shut, no_rule, letter_checks, mention_checks}
use Rattle.rules.specs.Scans.{first}
use Rattle.shelf.proofs.Caps.{shut_answers, letter_there, mention_there}
use Rattle.shelf.proofs.Lists.{after, answers_first_broken, answers_first_forced, answers_second, of_left, of_right}
use Rattle.pair.specs.Pairs.{pair_letter, pair_rules}

-- ---- telling and taking back

-- what is taken back to none is none
pub none_left : (E : Type 0) (r : Result (Unit {0}) Refusal) (ts us : List Literal) → refusal_of r ≡ first_failed (back_checks ts 0) → MatchResult r (λ _. us ≡ take 0 ts) (λ _. E) → us ≡ []
none_left E r ts us e h = took_back E r ts us 0 (omega arith) e h

-- one literal at the end of the same list
pub same_told : (ts us ts' us' : List Literal) (n : ℤ) → ts ≡ us → Appended ts n ts' → Appended us n us' → ts' ≡ us'
same_told ts us ts' us' n e p q =
    p.end ∙ ap (λ (l : Literal). ts ++ l ∷ []) (number_same p.literal q.literal (p.is ∙ sym q.is))
    ∙ ap (λ (xs : List Literal). xs ++ q.literal ∷ []) e ∙ sym q.end

-- where the first accepts a literal the second does
pub both_tell : (E : Type 0) (r : Result (Unit {0}) Refusal) (ts us us' : List Literal) (n : ℤ) → ts ≡ us → None ≡ first_failed (tell_checks ts n) → refusal_of r ≡ first_failed (tell_checks us n)
    → MatchResult r (λ _. Appended us n us') (λ _. E) → Appended us n us'
both_tell E (Ok _) ts us us' n e p q h = h
both_tell E (Err x) ts us us' n e p q h = let f = ap (λ (xs : List Literal). first_failed (tell_checks xs n)) e in let z : ◌≡◌ {A = ℕ} 0 1 = cc in absurd (omega arith)

pub tell_refused : (r : Result (Unit {0}) Refusal) (ts us : List Literal) (m n : ℤ) → m ≡ n → ts ≡ us → refusal_of r ≡ first_failed (tell_checks us m) → refusal_of r ≡ first_failed (tell_checks ts n)
tell_refused r ts us m n e f q = q ∙ ap (λ (xs : List Literal). first_failed (tell_checks xs m)) (sym f) ∙ ap (λ (k : ℤ). first_failed (tell_checks ts k)) e

pub tell_told : (F : Type 0) (r : Result (Unit {0}) Refusal) (ts us ts' : List Literal) (m n : ℤ) → m ≡ n → ts ≡ us → None ≡ first_failed (tell_checks ts m) → refusal_of r ≡ first_failed (tell_checks us m)
    → Appended ts m ts' → MatchResult r (λ _. Appended ts n ts') (λ _. F)
tell_told F (Ok _) ts us ts' m n e f p q h = subst (λ (k : ℤ). Appended ts k ts') e h
tell_told F (Err x) ts us ts' m n e f p q h = let g = ap (λ (xs : List Literal). first_failed (tell_checks xs m)) f in let z : ◌≡◌ {A = ℕ} 0 1 = cc in absurd (omega arith)

-- ---- the rules

pub joined_over : (xs ys : List Meaning) (m n : ℕ) → m ≡ length xs → n ≡ length ys → ltb 1024 (m + n) ≡ ltb 1024 (length (xs ++ ys))
joined_over xs ys m n p q = let e = length-append xs ys in let f : m + n ≡ length (xs ++ ys) = omega arith in ap (ltb 1024) f

pub joined_rules : (xs ys xs' ys' : List Meaning) → xs ≡ xs' → ys ≡ ys' → pair_rules xs ys ≡ pair_rules xs' ys'
joined_rules xs ys xs' ys' p q = ap (λ (rs : List Meaning). pair_rules rs ys) p ∙ ap (pair_rules xs') q

pub joined_kept : (xs ys xs' ys' : List Meaning) (closed : Bool) → xs' ≡ xs → ys' ≡ ys → closed ≡ ltb 1024 (length (xs ++ ys)) → closed ≡ ltb 1024 (length (xs' ++ ys'))
joined_kept xs ys xs' ys' closed p q h = h ∙ ap (λ (rs : List Meaning). ltb 1024 (length (rs ++ ys))) (sym p) ∙ ap (λ (rs : List Meaning). ltb 1024 (length (xs' ++ rs))) (sym q)

module _ (xs ys : List Meaning) (split : ℕ) (closed : Bool) (sp : split ≡ length xs) (over : closed ≡ ltb 1024 (length (xs ++ ys))) where
  pub open_rules : closed ≡ false → pair_rules xs ys ≡ xs ++ ys
  open_rules h = ap (λ (b : Bool). cond b (shut pair_letter ∷ []) (xs ++ ys)) (sym over ∙ h)

  pub shut_rules : closed ≡ true → pair_rules xs ys ≡ shut pair_letter ∷ []
  shut_rules h = ap (λ (b : Bool). cond b (shut pair_letter ∷ []) (xs ++ ys)) (sym over ∙ h)

  -- ---- the pair failed shut

  module _ (h : closed ≡ true) where
    pub shut_answer : (s : Setting) → Answers (pair_rules xs ys) s (Broken 1)
    shut_answer s = subst (λ (rs : List Meaning). Answers rs s (Broken 1)) (sym (shut_rules h)) (shut_answers pair_letter s)

    pub shut_of : (r : ℕ) (P : Meaning → Type 0) → r ≡ 1 → P (shut pair_letter) → OfRule (pair_rules xs ys) r P
    shut_of r P e p =
        subst (λ (k : ℕ). OfRule (pair_rules xs ys) k P) (sym e)
        (subst (λ (rs : List Meaning). OfRule rs 1 P) (sym (shut_rules h)) (record { rule = shut pair_letter; numbered = first; is = p }))

    pub shut_letter : (r : ℕ) → r ≡ 1 → None ≡ first_failed (letter_checks (pair_rules xs ys) r)
    shut_letter r e = let k = ap length (shut_rules h) in letter_there (pair_rules xs ys) r (omega arith) (omega arith)

    pub shut_mention : (r n : ℕ) → 1 ≤ n → n ≤ 64 → r ≡ 1 → None ≡ first_failed (mention_checks (pair_rules xs ys) r n)
    shut_mention r n a b e = let k = ap length (shut_rules h) in mention_there (pair_rules xs ys) r n a b (omega arith) (omega arith)

  -- ---- the pair has all the rules of both

  pub open_few : closed ≡ false → split + length ys ≤ 1024
  open_few h = let e = length-append xs ys in let k = ltb-false 1024 (length (xs ++ ys)) (sym over ∙ h) in omega arith

  pub open_count : (n : ℕ) → n ≡ length ys → closed ≡ false → split + n ≡ length (pair_rules xs ys)
  open_count n e h = let k = length-append xs ys in let j = ap length (open_rules h) in omega arith

  numbers_left : (r : ℕ) → r ≤ length xs → no_rule xs r ≡ no_rule (xs ++ ys) r
  numbers_left r h = let e = length-append xs ys in grind (arith, nat_tests)

  numbers_right : (r : ℕ) → length xs < r → no_rule ys (r - length xs) ≡ no_rule (xs ++ ys) r
  numbers_right r h = let e = length-append xs ys in grind (arith, nat_tests)

  -- ---- what is told of a rule of the first, or of the second

  module _ (r : ℕ) (clear : closed ≡ false) where
    refused_left : r ≤ split → no_rule xs r ≡ no_rule (pair_rules xs ys) r
    refused_left q = numbers_left r (omega arith) ∙ ap (λ (rs : List Meaning). no_rule rs r) (sym (open_rules clear))

    refused_right : split < r → no_rule ys (r - split) ≡ no_rule (pair_rules xs ys) r
    refused_right q = ap (λ (k : ℕ). no_rule ys (r - k)) sp ∙ numbers_right r (omega arith) ∙ ap (λ (rs : List Meaning). no_rule rs r) (sym (open_rules clear))

    pub letter_left : r ≤ split → first_failed (letter_checks xs r) ≡ first_failed (letter_checks (pair_rules xs ys) r)
    letter_left q = ap (λ (b : Bool). cond b (Some NoSuchPlace) None) (refused_left q)

    pub letter_right : split < r → first_failed (letter_checks ys (r - split)) ≡ first_failed (letter_checks (pair_rules xs ys) r)
    letter_right q = ap (λ (b : Bool). cond b (Some NoSuchPlace) None) (refused_right q)

    pub mention_left : (n : ℕ) → r ≤ split → first_failed (mention_checks xs r n) ≡ first_failed (mention_checks (pair_rules xs ys) r n)
    mention_left n q = ap (λ (o : Option Refusal). cond (no_switch n) (Some OutOfRange) o) (letter_left q)

    pub mention_right : (n : ℕ) → split < r → first_failed (mention_checks ys (r - split) n) ≡ first_failed (mention_checks (pair_rules xs ys) r n)
    mention_right n q = ap (λ (o : Option Refusal). cond (no_switch n) (Some OutOfRange) o) (letter_right q)

    pub is_left : {X : Type 0} (a : Result X Refusal) (P : X → Meaning → Type 0) → IfOk a (λ x. OfRule xs r (P x)) → IfOk a (λ x. OfRule (pair_rules xs ys) r (P x))
    is_left a P h = IfOk-weaker a _ _ (λ x o. subst (λ (rs : List Meaning). OfRule rs r (P x)) (sym (open_rules clear)) (of_left xs ys (P x) r o)) h

    pub is_right : {X : Type 0} (a : Result X Refusal) (P : X → Meaning → Type 0) → split < r → IfOk a (λ x. OfRule ys (r - split) (P x)) → IfOk a (λ x. OfRule (pair_rules xs ys) r (P x))
    is_right a P q h =
        let z : length xs + (r - split) ≡ r = omega arith in
        IfOk-weaker a _ _
        (λ x o. subst (λ (rs : List Meaning). OfRule rs r (P x)) (sym (open_rules clear))
        (subst (λ (k : ℕ). OfRule (xs ++ ys) k (P x)) z (of_right xs ys (P x) (r - split) o)))
        h

  -- ---- what the first answers, or, where it is quiet, the second

  module _ (clear : closed ≡ false) where
    pub first_broken : (s : Setting) (r : ℕ) → Answers xs s (Broken r) → Answers (pair_rules xs ys) s (Broken r)
    first_broken s r q = subst (λ (rs : List Meaning). Answers rs s (Broken r)) (sym (open_rules clear)) (answers_first_broken xs ys s r q)

    pub first_forced : (s : Setting) (r : ℕ) (l : Literal) → Answers xs s (Forced r l) → Answers (pair_rules xs ys) s (Forced r l)
    first_forced s r l q = subst (λ (rs : List Meaning). Answers rs s (Forced r l)) (sym (open_rules clear)) (answers_first_forced xs ys s r l q)

    pub second : (ts us : List Literal) (v : Verdict) → ts ≡ us → Answers xs (set_of ts) Quiet → Answers ys (set_of us) v → Answers (pair_rules xs ys) (set_of ts) (after split v)
    second ts us v e p q =
        subst (λ (rs : List Meaning). Answers rs (set_of ts) (after split v)) (sym (open_rules clear))
        (subst (λ (n : ℕ). Answers (xs ++ ys) (set_of ts) (after n v)) (sym sp)
        (answers_second xs ys (set_of ts) v p (subst (λ (ls : List Literal). Answers ys (set_of ls) v) (sym e) q)))
