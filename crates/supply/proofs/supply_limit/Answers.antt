use Rattle.std.proofs.Common.{◌≡◌, ℕ, ◌+◌, map, arith}
use Rattle.std.proofs.lemmas.Result.{IfOk-weaker}
use Rattle.literals.specs.Literals.{number}
use Rattle.linear.specs.declared.linear.Linear.{Linear}
use Rattle.linear.specs.Linears.{terms_of}
use Rattle.linear.specs.Terms.{literals, weights}
use Rattle.supply.specs.Facts.{limit_terms, limit_degree}
use Rattle.supply.proofs.Terms.{terms_same, made_both}
use Rattle.supply.proofs.Testing.{worked_facts_hold}
use Rattle.supply.proofs.supply_limit.Goals as goal

at_degree : (d : ℕ) → d + 40 ≡ 64 → d ≡ 24
at_degree d e = omega arith

pub returns : goal.returns
returns c =
    let e = c.at_most.ensures in
    record {
      taken = e.refused;
      terms = made_both c.at_most.result (λ (x : Linear). weights (terms_of x) ≡ weights limit_terms) (λ (x : Linear). map number (literals (terms_of x)) ≡ map number (literals limit_terms))
          (λ (x : Linear). terms_of x ≡ limit_terms) (λ x p q. terms_same (terms_of x) limit_terms p q) e.weights e.literals;
      degree = IfOk-weaker c.at_most.result (λ (x : Linear). x.degree + 40 ≡ 64) (λ (x : Linear). x.degree ≡ limit_degree) (λ x h. at_degree x.degree h) e.degree;
      facts = worked_facts_hold;
    }
