use Rattle.std.proofs.Common.{rules, ◌∙◌}
use Rattle.std.proofs.lemmas.Str.Pattern.{contains_text}
use Rattle.nextest_filter_evaluation.proofs.FormulaFacts.{turned_first_of_both, turned_first_of_either, turned_leaf, turned_neither, turned_part, turned_second}
use Rattle.nextest_filter_evaluation.specs.declared.ready_expr.ReadyExpr.{the_lemmas}
use Rattle.nextest_filter_evaluation.proofs.ready_expr.ReadyExpr.+holds.Goals as goal

pub loop-rest-preserved-in-Not : goal.loop-rest-preserved-in-Not
loop-rest-preserved-in-Not t c = record {
  no_deeper = search (rules, the_lemmas);
  says = rw c.deref-rest.ensures (turned_part _ _ _ (rw c.in-Not.is at c.loop-rest.invariant.says));
  same = c.loop-rest.invariant.same;
}

pub returns-then-holds-clause-holds : goal.returns-then-holds-clause-holds
returns-then-holds-clause-holds t c =
    let second = rw (c.loop-rest.invariant.same, c.deref.ensures) at c.holds.ensures.holds in
    turned_second _ _ _ _ c.holds.result second (rw c.in-Union.is at c.loop-rest.invariant.says) c.if-holds.true

pub loop-rest-preserved-in-Union : goal.loop-rest-preserved-in-Union
loop-rest-preserved-in-Union t c =
    let second = rw (c.loop-rest.invariant.same, c.deref.ensures) at c.holds.ensures.holds in
    record {
      no_deeper = search (rules, the_lemmas);
      says = rw c.deref-rest-in-Union.ensures (turned_first_of_either _ _ _ _ c.holds.result second (rw c.in-Union.is at c.loop-rest.invariant.says) c.if-holds.false);
      same = c.holds.ensures.same ∙ c.loop-rest.invariant.same;
    }

pub returns-then-not-holds-clause-holds : goal.returns-then-not-holds-clause-holds
returns-then-not-holds-clause-holds t c =
    let second = rw (c.loop-rest.invariant.same, c.deref-in-Intersection.ensures) at c.holds-in-Intersection.ensures.holds in
    turned_neither _ _ _ _ c.holds-in-Intersection.result second (rw c.in-Intersection.is at c.loop-rest.invariant.says) (search rules)

pub loop-rest-preserved : goal.loop-rest-preserved
loop-rest-preserved t c =
    let second = rw (c.loop-rest.invariant.same, c.deref-in-Intersection.ensures) at c.holds-in-Intersection.ensures.holds in
    record {
      no_deeper = search (rules, the_lemmas);
      says = rw c.deref-rest-in-Intersection.ensures (turned_first_of_both _ _ _ _ c.holds-in-Intersection.result second (rw c.in-Intersection.is at c.loop-rest.invariant.says) (search rules));
      same = c.holds-in-Intersection.ensures.same ∙ c.loop-rest.invariant.same;
    }

pub returns-in-Known-clause-holds : goal.returns-in-Known-clause-holds
returns-in-Known-clause-holds t c =
    turned_leaf _ _ _ _ (rw c.in-Known.is at c.loop-rest.invariant.says) (λ e. e, λ e. e)

pub returns-in-Equal-clause-holds : goal.returns-in-Equal-clause-holds
returns-in-Equal-clause-holds t c =
    turned_leaf _ _ _ _ (rw c.in-Equal.is at c.loop-rest.invariant.says) (search rules)

pub returns-in-Contains-clause-holds : goal.returns-in-Contains-clause-holds
returns-in-Contains-clause-holds t c =
    turned_leaf _ _ _ _ (rw c.in-Contains.is at c.loop-rest.invariant.says) (contains_text _ _ _ c.contains.ensures.cases)

pub returns-in-Glob-clause-holds : goal.returns-in-Glob-clause-holds
returns-in-Glob-clause-holds t c =
    turned_leaf _ _ _ _ (rw c.in-Glob.is at c.loop-rest.invariant.says) (search rules)

pub returns-in-Pattern-clause-holds : goal.returns-in-Pattern-clause-holds
returns-in-Pattern-clause-holds t c =
    turned_leaf _ _ _ _ (rw c.in-Pattern.is at c.loop-rest.invariant.says) (rw c.loop-rest.invariant.same at c.is_found.ensures.found)

pub returns-in-Groups-clause-holds : goal.returns-in-Groups-clause-holds
returns-in-Groups-clause-holds t c =
    turned_leaf _ _ _ _ (rw c.in-Groups.is at c.loop-rest.invariant.says) (rw c.deref-in-Groups.ensures.value at c.is_set.ensures)
