-- How long the list is that a `Bounded` holds.
use Rattle.std.proofs.Common.{◌≡◌, ℕ, ◌<◌, ◌≤◌, ◌↔◌, List, [], ◌∷◌, ◌++◌, length, Ok, Err, Result, IsOk, OnOk, arith, rules}
use Rattle.std.proofs.lemmas.List.{length-take-le}
use Rattle.bounded.specs.Held.{held}
use Rattle.bounded.specs.declared.bounded.Bounded.{Bounded}
use Rattle.bounded.specs.declared.full.Full.{Full}

pub held-length : {T : Type 0} {n : ℕ} (b : Bounded T n) → length (held b) ≡ b.len
held-length b = length-take-le b.len b.items (omega (arith, b.within))

pub held_few : {T : Type 0} {n : ℕ} (b : Bounded T n) → length (held b) ≤ n
held_few b = omega (arith, held-length b, b.within)

-- where there is room, a push puts its element behind the last
pub pushed_on : {T : Type 0} {n : ℕ} (r : Result (Unit {0}) Full) (before after : List T) (x : T) → (IsOk r ↔ (length before < n))
    → OnOk r (after ≡ before ++ x ∷ []) → length before < n → after ≡ before ++ x ∷ []
pushed_on (Ok u) before after x room pushed lt = pushed
pushed_on (Err e) before after x room pushed lt = search rules
