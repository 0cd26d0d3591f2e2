-- The two laws of every kind of rule, for linear rules.
use Rattle.std.specs.Prelude.{◌≡◌, ℕ, ◌<◌, ◌≤◌, true, List}
use Rattle.std.proofs.Common.{sym, ◌∙◌, arith}
use Rattle.std.proofs.lemmas.Bool.{ltb-true, lt-ltb}
use Rattle.literals.specs.declared.setting.Setting.{Setting}
use Rattle.rules.specs.Rules.{Grows, Ignores}
use Rattle.linear.specs.declared.linear.Linear.{Linear}
use Rattle.linear.specs.declared.term.Term.{Term}
use Rattle.linear.specs.Terms.{counted}
use Rattle.linear.specs.Slacks.{broken}
use Rattle.linear.specs.Linears.{terms_of, rule_broken, rule_mentions}
use Rattle.linear.specs.Sums.{counted_falls, below_zero}

-- where less counts, a broken rule stays broken
less_breaks : (s t : Setting) (ts : List Term) (d : ℕ) → counted t ts ≤ counted s ts → broken ts d s ≡ true → broken ts d t ≡ true
less_breaks s t ts d le b =
    let lt : counted s ts < d = ltb-true _ _ (sym (below_zero (counted s ts) d) ∙ b) in
    below_zero (counted t ts) d ∙ lt-ltb _ _ (omega arith)

pub linear_grows : (r : Linear) → Grows (rule_broken r)
linear_grows r s t inside b = less_breaks s t (terms_of r) r.degree (counted_falls s t (terms_of r) (λ l m h. inside l h)) b

pub linear_ignores : (r : Linear) → Ignores (rule_mentions r) (rule_broken r)
linear_ignores r s t inside h b = less_breaks s t (terms_of r) r.degree (counted_falls s t (terms_of r) h) b
