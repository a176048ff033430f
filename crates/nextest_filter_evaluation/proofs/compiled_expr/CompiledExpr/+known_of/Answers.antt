use Rattle.std.proofs.Common.{rules}
use Rattle.nextest_filter_evaluation.specs.Kleene.{known_both, known_either}
use Rattle.nextest_filter_evaluation.specs.declared.compiled_expr.CompiledExpr.{the_lemmas}
use Rattle.nextest_filter_evaluation.proofs.FormulaFacts.{or_left}
use Rattle.nextest_filter_evaluation.proofs.KleeneFacts.{tells_both, tells_either}
use Rattle.nextest_filter_evaluation.proofs.compiled_expr.CompiledExpr.+known_of.Goals as goal

pub loop-rest-preserved-in-Union : goal.loop-rest-preserved-in-Union
loop-rest-preserved-in-Union t c =
    let y = c.in_ok-y-in-Union in
    let whole = rw c.in-Union.is at c.loop-rest.invariant.tells in
    let second = rw c.deref.ensures at y.ensures.known in
    record {
      no_deeper = search (rules, the_lemmas);
      tells = λ o first. rw (c.through_either-whole.ensures o) (whole (known_either o y.y) (tells_either o y.y _ _ (rw c.deref-rest-in-Union.ensures at first) second));
      patterns = λ e. rw c.deref-rest-in-Union.ensures (or_left _ _ (rw c.in-Union.is at (c.loop-rest.invariant.patterns e)));
    }

pub loop-rest-preserved : goal.loop-rest-preserved
loop-rest-preserved t c =
    let y = c.in_ok-y-in-Intersection in
    let whole = rw c.in-Intersection.is at c.loop-rest.invariant.tells in
    let second = rw c.deref-in-Intersection.ensures at y.ensures.known in
    record {
      no_deeper = search (rules, the_lemmas);
      tells = λ o first. rw (c.through_both-whole.ensures o) (whole (known_both o y.y) (tells_both o y.y _ _ (rw c.deref-rest-in-Intersection.ensures at first) second));
      patterns = λ e. rw c.deref-rest-in-Intersection.ensures (or_left _ _ (rw c.in-Intersection.is at (c.loop-rest.invariant.patterns e)));
    }
