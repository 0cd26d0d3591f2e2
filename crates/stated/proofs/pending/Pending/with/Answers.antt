use Rattle.std.proofs.Common.{map, take, sym, ap, ◌∙◌, rules}
use Rattle.std.proofs.lemmas.List.{map_push}
use Rattle.stated.specs.Stated.{StatedTerm, stated_weights, stated_switches, small_weight, small_switch, term_of}
use Rattle.stated.proofs.Keeping.{kept_push}
use Rattle.stated.proofs.pending.Pending.with.Goals as goal

pub returns : goal.returns
returns c s h =
    let p = c.args.self in
    let e = c.args.entry in
    let w = c.push.ensures in
    let n = c.push-2.ensures in
    record {
      kind = h.kind;
      bound = h.bound;
      weights = kept_push small_weight (stated_weights s) e.weight _ p.weights c.push.new.self _ c.small_weight.ensures w.room w.pushed w.full h.weights
          ∙ ap (λ ws. map small_weight (take 17 ws)) (sym (map_push (λ (t : StatedTerm). t.weight) s.terms (term_of e)));
      numbers = kept_push small_switch (stated_switches s) e.switch _ p.numbers c.push-2.new.self _ (search rules) n.room n.pushed n.full h.numbers
          ∙ ap (λ zs. map small_switch (take 17 zs)) (sym (map_push (λ (t : StatedTerm). t.switch) s.terms (term_of e)));
    }
