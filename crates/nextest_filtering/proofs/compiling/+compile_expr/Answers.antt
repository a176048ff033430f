use Rattle.std.proofs.Common.{rules, ◌≡◌, ◌||◌, Bool, true, ap}
use Rattle.nextest_filter_evaluation.specs.Compiled.{compiled_of}
use Rattle.nextest_filter_evaluation.specs.Formulas.{both, either, negation}
use Rattle.nextest_filter_syntax.specs.declared.parsed_expr.ParsedExpr.{the_lemmas}
use Rattle.nextest_filtering.specs.Filters.{filter_leaf, filter_of}
use Rattle.nextest_filtering.proofs.ReversedFacts.{and_reversed, either_reversed, leaf_reversed}
use Rattle.nextest_filtering.proofs.compiling.+compile_expr.Goals as goal

or_left : (a b : Bool) → a ≡ true → (a || b) ≡ true
or_left a b e = ap (λ x. x || b) e

pub loop-rest-preserved-in-Union : goal.loop-rest-preserved-in-Union
loop-rest-preserved-in-Union t c =
    let was = c.loop-rest.invariant in
    let y = c.in_ok-compile_expr-in-Union in
    let groups = rw c.in-Union.is at was.groups in
    let compiled = rw c.in-Union.is at was.compiled in
    let faults = rw c.in-Union.is at was.faults in
    record {
      no_deeper = search (rules, the_lemmas);
      groups = λ e. groups (or_left _ _ (rw c.deref-rest-in-Union.ensures at e));
      compiled = λ m h. rw (c.in_ok-new-in-Union.ensures.ok, c.in_ok-y-in-Union.ensures.ok) (compiled (either m (compiled_of y.field-0)) (rw c.deref-rest-in-Union.ensures at h, rw c.deref.ensures at y.ensures.compiled));
      faults = λ new h. faults new (either_reversed c.args.cx.now c.args.groups.now (filter_of c.in-Union.x.value) (filter_of c.in-Union.y.value) _ _ _ (rw c.deref.ensures at y.ensures.faults) (rw c.deref-rest-in-Union.ensures at h));
    }

pub loop-rest-preserved-in-Intersection : goal.loop-rest-preserved-in-Intersection
loop-rest-preserved-in-Intersection t c =
    let was = c.loop-rest.invariant in
    let y = c.in_ok-compile_expr-in-Intersection in
    let groups = rw c.in-Intersection.is at was.groups in
    let compiled = rw c.in-Intersection.is at was.compiled in
    let faults = rw c.in-Intersection.is at was.faults in
    record {
      no_deeper = search (rules, the_lemmas);
      groups = λ e. groups (or_left _ _ (rw c.deref-rest-in-Intersection.ensures at e));
      compiled = λ m h. rw (c.in_ok-new-in-Intersection.ensures.ok, c.in_ok-y-in-Intersection.ensures.ok) (compiled (both m (compiled_of y.field-0)) (rw c.deref-rest-in-Intersection.ensures at h, rw c.deref-in-Intersection.ensures at y.ensures.compiled));
      faults = λ new h. faults new (and_reversed c.args.cx.now c.args.groups.now (filter_of c.in-Intersection.x.value) (filter_of c.in-Intersection.y.value) _ _ _ (rw c.deref-in-Intersection.ensures at y.ensures.faults) (rw c.deref-rest-in-Intersection.ensures at h));
    }

pub loop-rest-preserved : goal.loop-rest-preserved
loop-rest-preserved t c =
    let was = c.loop-rest.invariant in
    let y = c.in_ok-compile_expr-in-Difference in
    let groups = rw c.in-Difference.is at was.groups in
    let compiled = rw c.in-Difference.is at was.compiled in
    let faults = rw c.in-Difference.is at was.faults in
    record {
      no_deeper = search (rules, the_lemmas);
      groups = λ e. groups (or_left _ _ (rw c.deref-rest-in-Difference.ensures at e));
      compiled = λ m h. rw (c.in_ok-new-in-Difference.ensures.ok, c.in_ok-y-in-Difference-2.ensures.ok, c.in_ok-y-in-Difference.ensures.ok) (compiled (both m (negation (compiled_of y.field-0))) (rw c.deref-rest-in-Difference.ensures at h, rw c.deref-in-Difference.ensures at y.ensures.compiled));
      faults = λ new h. faults new (and_reversed c.args.cx.now c.args.groups.now (filter_of c.in-Difference.x.value) (negation (filter_of c.in-Difference.y.value)) _ _ _ (rw c.deref-in-Difference.ensures at y.ensures.faults) (rw c.deref-rest-in-Difference.ensures at h));
    }

pub returns-in-Set-clause-faults : goal.returns-in-Set-clause-faults
returns-in-Set-clause-faults t c =
    let faults = rw c.in-Set.is at c.loop-rest.invariant.faults in
    faults _ (leaf_reversed c.args.cx.now c.args.groups.now (filter_leaf c.in-Set.leaf) _ _ c.in_ok-leaf-in-Set.ensures.faults)
