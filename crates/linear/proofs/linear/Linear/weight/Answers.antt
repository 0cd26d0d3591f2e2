use Rattle.std.proofs.Common.{◌≡◌, Option, option_map, unwrap_or, ap, ℕ, ◌∙◌, rules}
use Rattle.std.proofs.lemmas.Iterator.{YieldsList-from_slice}
use Rattle.std.proofs.lemmas.Iterator.Search.{find_from_yields_List}
use Rattle.literals.specs.Literals.{same}
use Rattle.linear.specs.declared.term.Term.{Term}
use Rattle.linear.specs.Linears.{terms_of}
use Rattle.linear.proofs.Weights.{found_weighs, fused}
use Rattle.linear.proofs.linear.Linear.weight.Goals as goal

pub returns : goal.returns
returns c =
    let ts = terms_of c.args.self.now in
    let l = c.args.l in
    let found =
    find_from_yields_List (λ (t : Term). same t.literal l) _ _ _ c.find.ensures.ran (YieldsList-from_slice ts (c.iter.ensures.rest ∙ c.terms.ensures.value)) (λ x b q k. search rules) in
    let it : c.map_or.result ≡ unwrap_or (option_map (λ x. x.now.weight) c.find.result) 0 = search rules in
    it ∙ ap (λ (o : Option ℕ). unwrap_or o 0) (fused (λ x. x.now) (λ (t : Term). t.weight) c.find.result)
    ∙ ap (λ (o : Option Term). unwrap_or (option_map (λ (t : Term). t.weight) o) 0) found ∙ found_weighs ts l c.args.self.now.terms.once
