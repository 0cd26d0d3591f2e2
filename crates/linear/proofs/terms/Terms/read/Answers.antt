use Rattle.std.proofs.Common.{◌≡◌, List, ℕ, ◌+◌, ◌<◌, ◌≤◌, true, false, map, [], ◌∷◌, ◌++◌, length, take, sym, refl, ap, ◌∙◌, arith, take_all}
use Rattle.std.proofs.lemmas.Result.{err_from_is_err_and}
use Rattle.lists.specs.Lists.{literals_of, switch_twice}
use Rattle.lists.proofs.Distinct.{twice_read}
use Rattle.linear.proofs.Checking.{not_read, were_read}
use Rattle.std.proofs.lemmas.List.{length-map, length-append}
use Rattle.std.proofs.lemmas.Slice.Zip.{zip_turn, zip_end}
use Rattle.std.proofs.lemmas.Bool.{not-false}
use Rattle.bounded.specs.Held.{held}
use Rattle.literals.specs.Literals.{number}
use Rattle.bounded.proofs.Lengths.{pushed_on}
use Rattle.lists.specs.Lists.{distinct}
use Rattle.lists.proofs.Distinct.{read_long}
use Rattle.lists.proofs.Mapping.{part_pushed, part_length}
use Rattle.linear.specs.declared.term.Term.{Term}
use Rattle.linear.specs.Terms.{bad_weights}
use Rattle.linear.proofs.terms.Terms.read.Goals as goal

pub returns-in_err-literals : goal.returns-in_err-literals
returns-in_err-literals c =
    let p = err_from_is_err_and c.from_residual.result c.from_residual.ensures.1 in
    rw (p.1, p.2)
    (record { refused = not_read c.args.weights.now c.args.numbers.now c.if-weights-numbers.false _ c.in_err-literals.ensures.refused; weights = tt; literals = tt })

pub returns-then-weights_bad : goal.returns-then-weights_bad
returns-then-weights_bad c =
    let ns = c.args.numbers.now in
    record {
      refused = sym (were_read c.args.weights.now ns c.if-weights-numbers.false c.in_ok-literals.ensures.refused true (switch_twice ns) (sym c.if-weights_bad.ensures) refl);
      weights = tt;
      literals = tt;
    }

pub returns-then-switch_twice : goal.returns-then-switch_twice
returns-then-switch_twice c =
    let ns = c.args.numbers.now in
    let read = c.in_ok-literals.ensures in
    let twice = twice_read (literals_of c.in_ok-literals.literals) c.as_slice.result.now ns true read.literals c.as_slice.ensures.value c.if-switch_twice.ensures in
    record {
      refused = sym (were_read c.args.weights.now ns c.if-weights-numbers.false read.refused false true (sym c.if-weights_bad.ensures) twice);
      weights = tt;
      literals = tt;
    }

pub loop-weight-preserved : goal.loop-weight-preserved
loop-weight-preserved c =
    let ws = c.args.weights.now in
    let zipped = c.into_iter-weight-iterator.result in
    let ls = zipped.b.rest.now in
    let ts = held c.loop-weight.items in
    let i = length c.loop-weight.yielded in
    let turn = zip_turn ws ls c.loop-weight.yielded zipped c.loop-weight.weight-iterator c.next.new.self c.next.result (cc) refl c.loop-weight.yielded_by _ c.in-Some.is c.next.ensures.steps in
    let even : ls ≡ c.as_slice-2.result.now = cc in
    let few = c.as_slice-2.ensures.few in
    let all = ap length even in
    let lt = turn.1 in
    let long : length ts ≡ i = part_length (λ (t : Term). t.weight) ws ts i turn.0 c.loop-weight.invariant.0 in
    let room : length ts < 16 = omega arith in
    let after = pushed_on c.push.result ts (held c.push.new.self) _ c.push.ensures.room c.push.ensures.pushed room in
    let one : length (c.loop-weight.yielded ++ (c.in-Some.weight, c.in-Some.literal) ∷ []) ≡ i + 1 = length-append c.loop-weight.yielded ((c.in-Some.weight, c.in-Some.literal) ∷ []) in (
      part_pushed (λ (t : Term). t.weight) ws ts (held c.push.new.self) i c.in-Some.weight.now _ turn.0 (turn.2 _) refl c.loop-weight.invariant.0 after ∙ ap (λ (n : ℕ). take n ws) (sym one),
      part_pushed (λ (t : Term). t.literal) ls ts (held c.push.new.self) i c.in-Some.literal.now _ lt (turn.3 _) refl c.loop-weight.invariant.1 after ∙ ap (λ (n : ℕ). take n ls) (sym one),
    )

-- what was pushed, once either list is at its end
pushed_all : {X : Type 0} (f : Term → X) (ts : List Term) (xs : List X) (i : ℕ) → map f ts ≡ take i xs → length xs ≤ i → map f ts ≡ xs
pushed_all f ts xs i h le = h ∙ take_all i xs le

pub invariant_of-result : goal.invariant_of-result
invariant_of-result c =
    let zipped = c.into_iter-weight-iterator.result in
    let ts = held c.loop-weight.items in
    let even : zipped.b.rest.now ≡ c.as_slice-2.result.now = cc in
    let long = read_long (literals_of c.in_ok-literals.literals) c.args.numbers.now c.in_ok-literals.ensures.literals in
    let done = zip_end c.args.weights.now zipped.b.rest.now c.loop-weight.yielded zipped c.loop-weight.weight-iterator c.next.new.self c.next.result (cc) refl c.loop-weight.yielded_by c.in-None.is c.next.ensures.steps in
    let same = ap length even ∙ ap length c.as_slice-2.ensures.value in
    let ws = pushed_all (λ (t : Term). t.weight) ts c.args.weights.now _ c.loop-weight.invariant.0 (omega (arith, done, same, long, c.if-weights-numbers.false)) in
    let ls = pushed_all (λ (t : Term). t.literal) ts zipped.b.rest.now _ c.loop-weight.invariant.1 (omega (arith, done, same, long, c.if-weights-numbers.false)) in
    record {
      some = omega (arith, ap length ls, length-map ts (λ (t : Term). t.literal), ap length even, c.as_slice-2.ensures.some);
      once = ap distinct (ls ∙ even ∙ c.as_slice-2.ensures.value ∙ sym c.as_slice.ensures.value) ∙ not-false _ (sym c.if-switch_twice.ensures);
      falling = ap bad_weights ws ∙ sym c.if-weights_bad.ensures;
    }

pub returns : goal.returns
returns c =
    let ns = c.args.numbers.now in
    let read = c.in_ok-literals.ensures in
    let twice = twice_read (literals_of c.in_ok-literals.literals) c.as_slice.result.now ns false read.literals c.as_slice.ensures.value c.if-switch_twice.ensures in
    let zipped = c.into_iter-weight-iterator.result in
    let ts = held c.loop-weight.items in
    let even : zipped.b.rest.now ≡ c.as_slice-2.result.now = cc in
    let long = read_long (literals_of c.in_ok-literals.literals) ns read.literals in
    let done = zip_end c.args.weights.now zipped.b.rest.now c.loop-weight.yielded zipped c.loop-weight.weight-iterator c.next.new.self c.next.result (cc) refl c.loop-weight.yielded_by c.in-None.is c.next.ensures.steps in
    let same = ap length even ∙ ap length c.as_slice-2.ensures.value in
    let ls = pushed_all (λ (t : Term). t.literal) ts zipped.b.rest.now _ c.loop-weight.invariant.1 (omega (arith, done, same, long, c.if-weights-numbers.false)) in
    record {
      refused = sym (were_read c.args.weights.now ns c.if-weights-numbers.false read.refused false false (sym c.if-weights_bad.ensures) twice);
      weights = pushed_all (λ (t : Term). t.weight) ts c.args.weights.now _ c.loop-weight.invariant.0 (omega (arith, done, same, long, c.if-weights-numbers.false));
      literals = ap (map number) (ls ∙ even ∙ c.as_slice-2.ensures.value) ∙ read.literals;
    }
