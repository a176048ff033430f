use Rattle.std.proofs.Common.{arith, ◌≡◌, ◌+◌, ◌-◌, length, rules, sym}
use Rattle.std.proofs.lemmas.List.{length-append}
use Rattle.nextest_filter_evaluation.specs.Compiled.{compiled_of, leaf_of}
use Rattle.nextest_filter_evaluation.specs.Formulas.{both, either, negation}
use Rattle.nextest_filter_evaluation.specs.declared.compiled_expr.CompiledExpr.{the_lemmas}
use Rattle.nextest_filter_evaluation.specs.Ready.{ready_of, turned_over}
use Rattle.nextest_filter_evaluation.specs.Searches.{HasAt, leaf_searches, searches}
use Rattle.nextest_filter_evaluation.proofs.ReducingFacts.{alike_self, ready_alike, ready_both, ready_either, ready_not}
use Rattle.nextest_filter_evaluation.proofs.reducing.+reduced_before.Goals as goal

pub loop-rest-preserved-in-Not : goal.loop-rest-preserved-in-Not
loop-rest-preserved-in-Not t c =
    let x = compiled_of c.in-Not.x.value in
    let whole = rw c.in-Not.is at c.loop-rest.invariant.ready in
    record {
      no_deeper = search (rules, the_lemmas);
      place = rw c.deref-rest.ensures (rw c.in-Not.is at c.loop-rest.invariant.place);
      room = rw c.deref-rest.ensures (rw c.in-Not.is at c.loop-rest.invariant.room);
      ready = λ r start ends is. rw c.in_ok-new-in-Not.ensures.ok (whole (negation r) start (rw c.deref-rest.ensures at ends) (ready_not c.args.cx.now (λ all. HasAt all start (searches x)) x r (negation r) (rw c.deref-rest.ensures at is) (alike_self (negation r))));
    }

pub loop-rest-preserved-in-Union : goal.loop-rest-preserved-in-Union
loop-rest-preserved-in-Union t c =
    let x = compiled_of c.in-Union.x.value in
    let y = compiled_of c.in-Union.y.value in
    let second = ready_of c.in_ok-y-in-Union.y in
    let next = c.in_ok-y-in-Union.start in
    let begins : next + length (searches y) ≡ c.loop-rest.before = rw c.deref.ensures at c.in_ok-y-in-Union.ensures.start in
    let both_long = length-append (searches x) (searches y) in
    let whole = rw c.in-Union.is at c.loop-rest.invariant.ready in
    record {
      no_deeper = search (rules, the_lemmas);
      place = rw c.deref-rest-in-Union.ensures (omega (arith, begins, both_long, rw c.in-Union.is at c.loop-rest.invariant.place));
      room = rw c.deref-rest-in-Union.ensures (omega (arith, begins, both_long, rw c.in-Union.is at c.loop-rest.invariant.room));
      ready = λ r start ends is.
          let first_ends : start + length (searches x) ≡ next = rw c.deref-rest-in-Union.ensures at ends in
          rw (c.in_ok-new-in-Union.ensures.ok, c.in_ok-y-in-Union-2.ensures.ok) (whole (either r second) start (omega (arith, begins, both_long, first_ends)) (ready_either c.args.cx.now start next (searches x) (searches y) (sym first_ends) x y r second (either r second) (rw c.deref-rest-in-Union.ensures at is) (rw c.deref.ensures at c.in_ok-y-in-Union.ensures.ready) (alike_self (either r second))));
    }

pub loop-rest-preserved : goal.loop-rest-preserved
loop-rest-preserved t c =
    let x = compiled_of c.in-Intersection.x.value in
    let y = compiled_of c.in-Intersection.y.value in
    let second = ready_of c.in_ok-y-in-Intersection.y in
    let next = c.in_ok-y-in-Intersection.start in
    let begins : next + length (searches y) ≡ c.loop-rest.before = rw c.deref-in-Intersection.ensures at c.in_ok-y-in-Intersection.ensures.start in
    let both_long = length-append (searches x) (searches y) in
    let whole = rw c.in-Intersection.is at c.loop-rest.invariant.ready in
    record {
      no_deeper = search (rules, the_lemmas);
      place = rw c.deref-rest-in-Intersection.ensures (omega (arith, begins, both_long, rw c.in-Intersection.is at c.loop-rest.invariant.place));
      room = rw c.deref-rest-in-Intersection.ensures (omega (arith, begins, both_long, rw c.in-Intersection.is at c.loop-rest.invariant.room));
      ready = λ r start ends is.
          let first_ends : start + length (searches x) ≡ next = rw c.deref-rest-in-Intersection.ensures at ends in
          rw (c.in_ok-new-in-Intersection.ensures.ok, c.in_ok-y-in-Intersection-2.ensures.ok) (whole (both r second) start (omega (arith, begins, both_long, first_ends)) (ready_both c.args.cx.now start next (searches x) (searches y) (sym first_ends) x y r second (both r second) (rw c.deref-rest-in-Intersection.ensures at is) (rw c.deref-in-Intersection.ensures at c.in_ok-y-in-Intersection.ensures.ready) (alike_self (both r second))));
    }

pub returns-in-Set-clause-ready : goal.returns-in-Set-clause-ready
returns-in-Set-clause-ready t c =
    let l = leaf_of c.in-Set.leaf in
    let ready = ready_of c.in_ok-ready-in-Set.ready in
    let start = c.loop-rest.before - c.search_count.result in
    let begins : start + length (leaf_searches l) ≡ c.loop-rest.before = omega (arith, c.search_count.ensures, rw c.in-Set.is at c.loop-rest.invariant.room) in
    ready_alike c.args.cx.now (λ all. HasAt all start (searches (compiled_of c.args.filter.now))) (compiled_of c.args.filter.now) (turned_over c.loop-rest.above ready) (ready_of c.turned_over.result) ((rw c.in-Set.is at c.loop-rest.invariant.ready) ready start begins c.in_ok-ready-in-Set.ensures) c.turned_over.ensures
