use Rattle.std.proofs.Common.{◌≡◌, Bool, true, false, not, ◌&&◌, ℤ, pos, sym, ap, ◌∙◌, ap₂, arith, w64, SFits, to_z, of_z, rules}
use lib.Signed.{lt_z}
use Rattle.std.proofs.lemmas.Int.{to_z-of_z, ints}
use Rattle.std.proofs.lemmas.Bool.Decides.{Decides-at}
use Rattle.linear.specs.Slacks.{slack, above}
use Rattle.linear.specs.Linears.{terms_of}
use Rattle.linear.proofs.Forcing.{decides_forces}
use Rattle.linear.proofs.linear.rule.LinearRule.forces.Goals as goal

last_test : (a f x : Bool) → a ≡ false → f ≡ true → x ≡ (not a && (f && x))
last_test a f x p q = grind arith

pub returns : goal.returns
returns c =
    let r = c.args.self.now in
    let s = c.args.set.now in
    let l = c.args.l in
    let z = slack (terms_of r) r.degree s in
    let fits : SFits w64 c.slack-slack.result = search rules in
    let fits_weight : SFits w64 c.from.result = search rules in
    let low : lt_z c.slack-slack.result (pos 0) ≡ false = let h = c.if-slack-lt0.false in grind (arith, ints) in
    let e : lt_z (to_z w64 (of_z w64 c.slack-slack.result)) (to_z w64 (of_z w64 c.from.result)) ≡ above (terms_of r) z s l =
    ap₂ lt_z (to_z-of_z w64 _ fits ∙ c.slack-slack.ensures) (to_z-of_z w64 _ fits_weight ∙ c.from.ensures ∙ ap pos c.weight.ensures)
    ∙ last_test (lt_z z (pos 0)) _ _ (ap (λ (k : ℤ). lt_z k (pos 0)) (sym c.slack-slack.ensures) ∙ low) (sym c.if-not-is_free.ensures) in
    record { forces = Decides-at _ _ e (decides_forces (terms_of r) r.degree s l); weighs = e }
