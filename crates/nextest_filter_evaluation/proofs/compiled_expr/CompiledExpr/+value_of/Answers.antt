use Rattle.std.proofs.Common.{rules}
use Rattle.nextest_filter_evaluation.specs.declared.compiled_expr.CompiledExpr.{the_lemmas}
use Rattle.nextest_filter_evaluation.proofs.FormulaFacts.{turned_leaf, turned_neither, turned_part, turned_second}
use Rattle.nextest_filter_evaluation.proofs.compiled_expr.CompiledExpr.+value_of.Goals as goal

pub loop-rest-preserved-in-Not : goal.loop-rest-preserved-in-Not
loop-rest-preserved-in-Not g t c = record {
  no_deeper = search (rules, the_lemmas);
  says = rw c.deref-rest.ensures (turned_part _ _ _ (rw c.in-Not.is at c.loop-rest.invariant.says));
  patterns = λ e. rw c.deref-rest.ensures (rw c.in-Not.is at (c.loop-rest.invariant.patterns e));
  groups = λ e. c.loop-rest.invariant.groups (rw c.in-Not.is (rw c.deref-rest.ensures at e));
}

pub returns-then-branch-clause-holds : goal.returns-then-branch-clause-holds
returns-then-branch-clause-holds g t c =
    let y = c.in_ok-value_of-in-Union in
    turned_second _ _ _ _ y.field-0 (rw c.deref.ensures at y.ensures.holds) (rw c.in-Union.is at c.loop-rest.invariant.says) c.if-branch.true

pub returns-then-not-branch-clause-holds : goal.returns-then-not-branch-clause-holds
returns-then-not-branch-clause-holds g t c =
    let y = c.in_ok-value_of-in-Intersection in
    turned_neither _ _ _ _ y.field-0 (rw c.deref-in-Intersection.ensures at y.ensures.holds) (rw c.in-Intersection.is at c.loop-rest.invariant.says) (search rules)

pub returns-in-Set-clause-holds : goal.returns-in-Set-clause-holds
returns-in-Set-clause-holds g t c =
    turned_leaf _ _ _ _ (rw c.in-Set.is at c.loop-rest.invariant.says) c.in_ok-value-in-Set.ensures.holds
