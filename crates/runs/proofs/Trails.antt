-- The trails that choosing and settling make, with the literals chosen; and at the heart: every stable set contains them.
use Rattle.std.proofs.Common.{◌≡◌, ℕ, ◌+◌, Bool, true, false, not, ◌⊎◌, List, [], ◌∷◌, ◌++◌, map, length, ℤ, Some, None, sym, refl, ap, ◌∙◌, inl, inr, ⊎_elim}
use Rattle.std.proofs.lemmas.List.{map_push, length-map}
use Rattle.std.proofs.lemmas.Bool.{and_from}
use Rattle.literals.specs.declared.literal.Literal.{Literal}
use Rattle.literals.specs.declared.setting.Setting.{Setting}
use Rattle.literals.specs.Literals.{number, opposite}
use Rattle.literals.specs.Settings.{stands, free, plus, nothing, set_of, free_count, ◌⊆◌}
use Rattle.literals.proofs.Known.{number_same}
use Rattle.literals.proofs.Standing.{nothing-stands, plus-has, plus_keeps, plus_within}
use Rattle.lists.specs.Lists.{distinct, ◌∈◌}
use Rattle.lists.proofs.Reading.{in_push, push_in}
use Rattle.lists.proofs.Sets.{plus_all-push, distinct_push, free_new, count_free}
use Rattle.rules.specs.declared.Verdict.TheVariants.{Quiet, Forced}
use Rattle.rules.specs.Scans.{Numbered}
use Rattle.shelf.specs.Meanings.{Meaning, Lawful, Every, Answers}
use Rattle.runs.specs.declared.step.Step.{Step}
use Rattle.runs.specs.Views.{literals_on, standing}
use Rattle.runs.specs.Reasons.{Meets, Still}
use Rattle.runs.specs.Laws.{Holds, Stable}

-- a literal is chosen where all is quiet, and locked by what the scan forces; a chosen one begins a level
pub data Trail (rules : List Meaning) : List Literal → List Step → Type 0 where
  empty : Trail rules [] []
  chose : {c : List Literal} {t : List Step} (x : Step) → Trail rules c t → Answers rules (standing t) Quiet → free (standing t) x.literal ≡ true
      → x.level ≡ length c + 1 → x.rule ≡ None → Trail rules (c ++ x.literal ∷ []) (t ++ x ∷ [])
  locked : {c : List Literal} {t : List Step} (x : Step) → Trail rules c t → (r : ℕ) → Answers rules (standing t) (Forced r x.literal)
      → x.level ≡ length c → x.rule ≡ Some r → Trail rules c (t ++ x ∷ [])

abbrev pub numbers : List Literal → List ℤ
numbers c = map number c

pub literals-push : (t : List Step) (x : Step) → literals_on (t ++ x ∷ []) ≡ literals_on t ++ x.literal ∷ []
literals-push t x = map_push (λ (y : Step). y.literal) t x

pub standing-push : (t : List Step) (x : Step) → standing (t ++ x ∷ []) ≡ plus (standing t) x.literal
standing-push t x = ap set_of (literals-push t x) ∙ plus_all-push nothing (literals_on t) x.literal

-- ---- each switch stands once

pub once_more : (t : List Step) (x : Step) → free (standing t) x.literal ≡ true → distinct (literals_on t) ≡ true → distinct (literals_on (t ++ x ∷ [])) ≡ true
once_more t x f d = ap distinct (literals-push t x) ∙ distinct_push (literals_on t) x.literal d (free_new (literals_on t) x.literal f)

pub once : (rules : List Meaning) {c : List Literal} {t : List Step} → Trail rules c t → distinct (literals_on t) ≡ true
once rules empty = refl
once rules (chose {t = t} x back q f e z) = once_more t x f (once rules back)
once rules (locked {t = t} x back r a e z) = once_more t x a.here.forced.free (once rules back)

pub count_once : (t : List Step) → distinct (literals_on t) ≡ true → length t + free_count (standing t) ≡ 64
count_once t d = ap (λ (n : ℕ). n + free_count (standing t)) (sym (length-map t (λ (x : Step). x.literal))) ∙ count_free (literals_on t) d

pub count : (rules : List Meaning) {c : List Literal} {t : List Step} → Trail rules c t → length t + free_count (standing t) ≡ 64
count rules {t = t} tr = count_once t (once rules tr)

-- ---- every stable set contains the whole trail

pub plus_grows : (s x : Setting) (l : Literal) → s ⊆ x → plus s l ⊆ plus x l
plus_grows s x l sub = plus_within s (plus x l) l (λ m h. plus_keeps x l m (sub m h)) (plus-has x l)

number_push : (c : List Literal) (l k : Literal) → (number k ∈ numbers c) ⊎ (number k ≡ number l) → number k ∈ numbers (c ++ l ∷ [])
number_push c l k h = rw (map_push number c l) (push_in (numbers c) (number l) (number k) h)

push-number : (c : List Literal) (l k : Literal) → number k ∈ numbers (c ++ l ∷ []) → (number k ∈ numbers c) ⊎ (number k ≡ number l)
push-number c l k h = in_push (numbers c) (number l) (number k) (rw (sym (map_push number c l)) h)

fewer_chosen : (rules : List Meaning) (c : List Literal) (l : Literal) (x : Setting) → Stable rules (numbers (c ++ l ∷ [])) x → Stable rules (numbers c) x
fewer_chosen rules c l x st = record { holds = λ k h. st.holds k (number_push c l k (inl h)); meets = st.meets; still = st.still }

module _ (rules : List Meaning) (lawful : Every rules Lawful) where
  -- what a rule forces from a part of a set that breaks no rule and forces nothing is in the set
  pub forced_in : (s x : Setting) (r : ℕ) (m : Meaning) (l : Literal) → Numbered rules r m → m.breaks (plus s (opposite l)) ≡ true → s ⊆ x → Meets rules x → Still rules x → stands x l ≡ true
  forced_in s x r m l at against sub meets still = go (stands x l) refl (stands x (opposite l)) refl
    where
      law : Lawful m
      law = lawful r m at

      go : (b : Bool) → stands x l ≡ b → (d : Bool) → stands x (opposite l) ≡ d → stands x l ≡ true
      go true e d e' = e
      go false e true e' = absurd (cc (law.grows _ x (plus_within s x (opposite l) sub e') against, meets r m at))
      go false e false e' =
          let nor : free x l ≡ true = and_from _ _ (ap not e) (ap not e') in
          absurd (still r m at l (record { unbroken = meets r m at; free = nor; against = law.grows _ _ (plus_grows s x (opposite l) sub) against }))

  pub least : {c : List Literal} {t : List Step} (x : Setting) → Trail rules c t → Stable rules (numbers c) x → standing t ⊆ x
  least x empty st = λ l h. absurd (cc (nothing-stands l))
  least x (chose {c = c} {t = t} y back q f e z) st =
      rw (standing-push t y)
      (plus_within (standing t) x y.literal (least x back (fewer_chosen rules c y.literal x st)) (st.holds y.literal (number_push c y.literal y.literal (inr refl))))
  least x (locked {c = c} {t = t} y back r a e z) st =
      rw (standing-push t y)
      (plus_within (standing t) x y.literal (least x back st)
      (forced_in (standing t) x r a.rule y.literal a.numbered a.here.forced.against (least x back st) st.meets st.still))

-- the trail contains the chosen literals
pub holds_chosen : (rules : List Meaning) {c : List Literal} {t : List Step} → Trail rules c t → Holds (numbers c) (standing t)
holds_chosen rules empty l h = absurd h
holds_chosen rules (chose {c = c} {t = t} y back q f e z) l h =
    rw (standing-push t y)
    (⊎_elim (λ p. plus_keeps (standing t) y.literal l (holds_chosen rules back l p))
    (λ (d : number l ≡ number y.literal). rw (number_same l y.literal d) (plus-has (standing t) y.literal))
    (push-number c y.literal l h))
holds_chosen rules (locked {c = c} {t = t} y back r a e z) l h =
    rw (standing-push t y) (plus_keeps (standing t) y.literal l (holds_chosen rules back l h))
