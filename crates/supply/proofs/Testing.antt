-- A test of worked facts that the checker computes, and that a fact which passes it holds.
use Rattle.std.proofs.Common.{◌≡◌, ℕ, ◌+◌, Bool, true, false, cond, not, ◌&&◌, eqb, List, [], ◌∷◌, ◌++◌, ℤ, is_some, Some, None, fold, sum, Option, sym, refl, ap, subst, ⊎_elim, arith}
use lib.Signed.{lt_z}
use Rattle.std.specs.List.{All}
use Rattle.std.proofs.lemmas.List.{append-nil, append_assoc}
use Rattle.std.proofs.lemmas.List.Elements.{All-nil, All-cons}
use Rattle.std.proofs.lemmas.Int.{ints}
use Rattle.std.proofs.lemmas.Bool.{and_parts, eqb-true, both_ways, cases_Bool, not-true}
use Rattle.literals.specs.declared.literal.Literal.{Literal}
use Rattle.literals.specs.declared.refusal.Refusal.{Refusal}
use Rattle.literals.specs.declared.setting.Setting.{Setting}
use Rattle.literals.specs.Literals.{same}
use Rattle.literals.specs.Refusals.{first_failed}
use Rattle.literals.specs.Settings.{stands, plus, nothing as empty, set_of}
use Rattle.literals.proofs.Known.{same_is}
use Rattle.lists.specs.Lists.{distinct}
use Rattle.linear.specs.declared.term.Term.{Term}
use Rattle.linear.specs.Linears.{at_most_checks}
use Rattle.linear.specs.Lowests.{passes, improved}
use Rattle.linear.specs.Slacks.{slack, broken}
use Rattle.linear.specs.Terms.{literals}
use Rattle.linear.proofs.Lowests.{Lowest, lowest_push, first_above}
use Rattle.linear.proofs.Forcing.{first_forced}
use Rattle.rules.specs.Rules.{FirstForced}
use Rattle.supply.specs.Facts.{Says, nothing, forces, breaks, Said, Fact, under, gives, refused, refusal_number, Holds, worked_facts}

-- ---- what a rule says, computed

lowest_from : (p : Term → Bool) (ds ts : List Term) (best : Option Literal) → Lowest p ds best → Lowest p (ds ++ ts) (fold (improved p) best ts)
lowest_from p ds [] best h = subst (λ (xs : List Term). Lowest p xs best) (sym (append-nil ds)) h
lowest_from p ds (t ∷ ts) best h =
    subst (λ (xs : List Term). Lowest p xs (fold (improved p) (improved p best t) ts)) (append_assoc ds (t ∷ []) ts)
    (lowest_from p (ds ++ t ∷ []) ts (improved p best t) (lowest_push p ds t best h))

abbrev by_literal : Option Literal → Says
by_literal None = nothing
by_literal (Some l) = forces l

abbrev says_of : List Term → ℕ → Setting → Says
says_of ts d s = cond (broken ts d s) breaks (by_literal (fold (improved (passes (slack ts d s) s)) None ts))

said_literal : (B : Setting → Bool) (s : Setting) (o : Option Literal) → B s ≡ false → FirstForced B s o → Said B s (by_literal o)
said_literal B s None b f = record { unbroken = b; still = f }
said_literal B s (Some l) b f = f

said : (ts : List Term) (d : ℕ) (s : Setting) → distinct (literals ts) ≡ true → Said (broken ts d) s (says_of ts d s)
said ts d s once = ⊎_elim broken_here whole_here (cases_Bool (broken ts d s))
  where
    broken_here : broken ts d s ≡ true → Said (broken ts d) s (says_of ts d s)
    broken_here b = subst (λ (x : Bool). Said (broken ts d) s (cond x breaks (by_literal (fold (improved (passes (slack ts d s) s)) None ts)))) (sym b) b

    whole_here : broken ts d s ≡ false → Said (broken ts d) s (says_of ts d s)
    whole_here b =
        let o = fold (improved (passes (slack ts d s) s)) None ts in
        let low = lowest_from (passes (slack ts d s) s) [] ts None (All-nil (λ t. passes (slack ts d s) s t ≡ false)) in
        subst (λ (x : Bool). Said (broken ts d) s (cond x breaks (by_literal o))) (sym b)
        (said_literal (broken ts d) s o b (first_forced ts d s once o (first_above ts (slack ts d s) s once b o low)))

-- ---- the test

abbrev same_says : Says → Says → Bool
same_says nothing nothing = true
same_says nothing (forces l) = false
same_says nothing breaks = false
same_says (forces k) nothing = false
same_says (forces k) (forces l) = same k l
same_says (forces k) breaks = false
same_says breaks nothing = false
same_says breaks (forces l) = false
same_says breaks breaks = true

says_is : (a b : Says) → same_says a b ≡ true → a ≡ b
says_is nothing nothing h = refl
says_is nothing (forces l) h = absurd (both_ways false refl h)
says_is nothing breaks h = absurd (both_ways false refl h)
says_is (forces k) nothing h = absurd (both_ways false refl h)
says_is (forces k) (forces l) h = ap forces (same_is k l h)
says_is (forces k) breaks h = absurd (both_ways false refl h)
says_is breaks nothing h = absurd (both_ways false refl h)
says_is breaks (forces l) h = absurd (both_ways false refl h)
says_is breaks breaks h = refl

abbrev same_number : ℤ → ℤ → Bool
same_number a b = not (lt_z a b) && not (lt_z b a)

number_is : (a b : ℤ) → same_number a b ≡ true → a ≡ b
number_is a b h =
    let both = and_parts (not (lt_z a b)) (not (lt_z b a)) h in
    let p = not-true _ both.0 in
    let q = not-true _ both.1 in
    grind (arith, ints)

abbrev passes_test : Fact → Bool
passes_test (under ts d ls z says) = distinct (literals ts) && (same_number (slack ts d (set_of ls)) z && same_says (says_of ts d (set_of ls)) says)
passes_test (gives ws ns b d) = not (is_some (first_failed (at_most_checks ws ns b))) && eqb (d + b) (sum ws)
passes_test (refused ws ns b k) = eqb (refusal_number (first_failed (at_most_checks ws ns b))) k

holds : (f : Fact) → passes_test f ≡ true → Holds f
holds (under ts d ls z says) h =
    let parts = and_parts (distinct (literals ts)) _ h in
    let both = and_parts (same_number (slack ts d (set_of ls)) z) _ parts.1 in
    (number_is _ _ both.0, subst (Said (broken ts d) (set_of ls)) (says_is _ _ both.1) (said ts d (set_of ls) parts.0))
holds (gives ws ns b d) h =
    let both = and_parts (not (is_some (first_failed (at_most_checks ws ns b)))) _ h in
    (none (first_failed (at_most_checks ws ns b)) (not-true _ both.0), eqb-true _ _ both.1)
  where
    none : (o : Option Refusal) → is_some o ≡ false → o ≡ None
    none None e = refl
    none (Some r) e = absurd (both_ways true e refl)
holds (refused ws ns b k) h = eqb-true _ _ h

abbrev all_pass : List Fact → Bool
all_pass [] = true
all_pass (f ∷ fs) = passes_test f && all_pass fs

all_hold : (fs : List Fact) → all_pass fs ≡ true → All Holds fs
all_hold [] h = All-nil Holds
all_hold (f ∷ fs) h = let both = and_parts (passes_test f) (all_pass fs) h in All-cons Holds f fs (holds f both.0) (all_hold fs both.1)

pub worked_facts_hold : All Holds worked_facts
unfolding stands plus empty
worked_facts_hold = all_hold worked_facts refl
