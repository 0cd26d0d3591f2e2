-- Terms are known by their weights and the numbers of their literals.
use Rattle.std.proofs.Common.{◌≡◌, ℕ, List, [], ◌∷◌, map, length, IfOk, Ok, Err, Result, refl, ap, ap₂, arith}
use Rattle.literals.specs.Literals.{number}
use Rattle.literals.proofs.Known.{number_same}
use Rattle.linear.specs.declared.term.Term.{Term}
use Rattle.linear.specs.Terms.{literals, weights}

pub terms_same : (ts us : List Term) → weights ts ≡ weights us → map number (literals ts) ≡ map number (literals us) → ts ≡ us
terms_same [] [] p q = refl
terms_same [] (u ∷ us) p q = absurd (omega (arith, ap length p))
terms_same (t ∷ ts) [] p q = absurd (omega (arith, ap length p))
terms_same (t ∷ ts) (u ∷ us) p q =
    let w : t.weight ≡ u.weight = cc in
    let ws : weights ts ≡ weights us = cc in
    let n : number t.literal ≡ number u.literal = cc in
    let ns : map number (literals ts) ≡ map number (literals us) = cc in
    ap₂ (λ (x : Term) (xs : List Term). x ∷ xs) (ap₂ (λ (x : ℕ) l. record { weight = x; literal = l }) w (number_same t.literal u.literal n)) (terms_same ts us ws ns)

pub made_both : {X Y : Type 0} (r : Result X Y) (P Q R : X → Type 0) → ((x : X) → P x → Q x → R x) → IfOk r P → IfOk r Q → IfOk r R
made_both (Ok x) P Q R f p q = f x p q
made_both (Err y) P Q R f p q = tt
