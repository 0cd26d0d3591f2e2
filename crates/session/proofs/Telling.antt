-- What a session tells of a switch and of a place.
use Rattle.std.proofs.Common.{◌≡◌, ℕ, ◌+◌, ◌-◌, ◌≤◌, Bool, true, cond, List, length, get_or, pos, neg_ℤ, sym, ap, ◌∙◌, subst, ap₂, arith}
use Rattle.literals.specs.declared.literal.Literal.{Literal}
use Rattle.literals.specs.declared.setting.Setting.{Setting}
use Rattle.literals.specs.Literals.{number, opposite}
use Rattle.literals.specs.Settings.{stands, stands_number}
use Rattle.literals.proofs.Known.{number-opposite}
use Rattle.literals.proofs.Standing.{number-stands}
use Rattle.rules.specs.Scans.{Numbered}
use Rattle.rules.proofs.Numbers.{at_numbered}
use Rattle.runs.specs.declared.step.Step.{Step}
use Rattle.session.specs.declared.position.Position.TheVariants.{On, Off, Free}
use Rattle.session.specs.Positions.{position}

pub positioned : (s : Setting) (l : Literal) (n : ℕ) (a b : Bool) → l.switch ≡ n → l.on ≡ true → a ≡ stands s l → b ≡ stands s (opposite l) → cond a On (cond b Off Free) ≡ position s n
positioned s l n a b e o p q =
    let is : number l ≡ pos n = ap₂ (λ (x : Bool) (k : ℕ). cond x (pos k) (neg_ℤ (pos k))) o e in
    ap₂ (λ (x y : Bool). cond x On (cond y Off Free))
    (p ∙ sym (number-stands s l) ∙ ap (stands_number s) is)
    (q ∙ sym (number-stands s (opposite l)) ∙ ap (stands_number s) (number-opposite l ∙ ap neg_ℤ is))

pub place_there : (t u : List Step) (i : ℕ) (x : Step) → u ≡ t → 1 ≤ i → i ≤ length t → x ≡ get_or u (i - 1) x → Numbered t i x
place_there t u i x e p q is =
    let n : i - 1 + 1 ≡ i = omega arith in
    let at : get_or t (i - 1) x ≡ x = ap (λ (ys : List Step). get_or ys (i - 1) x) (sym e) ∙ sym is in
    subst (λ (j : ℕ). Numbered t j x) n (subst (Numbered t (i - 1 + 1)) at (at_numbered t (i - 1) x (omega arith)))
