-- What a call's refusal says of the checks behind it.
use Rattle.std.proofs.Common.{◌≡◌, ℕ, Bool, true, false, cond, List, [], ◌∷◌, ◌++◌, Some, None, Option, sym, refl, ap, ◌∙◌, arith}
use Rattle.literals.specs.declared.refusal.Refusal.{Refusal}
use Rattle.literals.specs.Refusals.{Check, first_failed}

none_some : {B : Type 0} (e : Refusal) → None ≡ Some e → B
none_some e p = let z : ◌≡◌ {A = ℕ} 0 1 = cc in absurd (omega arith)

-- the one check there is failed
pub by_check : (b : Bool) (r e : Refusal) → Some e ≡ cond b (Some r) None → (b ≡ true) × (e ≡ r)
by_check true r e p = (refl, cc)
by_check false r e p = none_some e (sym p)

-- the first check did not fail
pub past-check : (b : Bool) (r : Refusal) (rest : Option Refusal) → None ≡ cond b (Some r) rest → (b ≡ false) × (None ≡ rest)
past-check true r rest p = none_some r p
past-check false r rest p = (refl, p)

-- checks that are followed by others: a refusal by them stands, and where there is none the others decide
pub failed_before : (cs ds : List Check) (e : Refusal) → Some e ≡ first_failed cs → Some e ≡ first_failed (cs ++ ds)
failed_before [] ds e p = none_some e (sym p)
failed_before (c ∷ cs) ds e p = at c.fails p (failed_before cs ds e)
  where
    at : (b : Bool) → Some e ≡ cond b (Some c.refusal) (first_failed cs) → (Some e ≡ first_failed cs → Some e ≡ first_failed (cs ++ ds))
        → Some e ≡ cond b (Some c.refusal) (first_failed (cs ++ ds))
    at true p later = p
    at false p later = later p

pub passed_before : (cs ds : List Check) → None ≡ first_failed cs → first_failed (cs ++ ds) ≡ first_failed ds
passed_before [] ds p = refl
passed_before (c ∷ cs) ds p =
    let past = past-check c.fails c.refusal (first_failed cs) p in
    ap (λ (b : Bool). cond b (Some c.refusal) (first_failed (cs ++ ds))) past.0 ∙ passed_before cs ds past.1

-- where none failed, each passed
abbrev pub Passed : List Check → Type 0
Passed [] = Unit {0}
Passed (c ∷ cs) = (c.fails ≡ false) × Passed cs

pub passed : (cs : List Check) → None ≡ first_failed cs → Passed cs
passed [] p = tt
passed (c ∷ cs) p = let past = past-check c.fails c.refusal (first_failed cs) p in (past.0, passed cs past.1)
