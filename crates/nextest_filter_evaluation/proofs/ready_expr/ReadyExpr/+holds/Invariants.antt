use Rattle.std.proofs.Common.{◌≡◌, ◌≤◌, map}
use Rattle.regex.specs.Strings.{matcher_pattern}
use Rattle.nextest_filter_evaluation.specs.Formulas.{Holds}
use Rattle.nextest_filter_evaluation.proofs.FormulaFacts.{SaysTurned}
use Rattle.nextest_filter_evaluation.specs.Ready.{Says, ready_of}
use Rattle.nextest_filter_evaluation.specs.declared.ready_expr.ReadyExpr.{size-ReadyExpr}
use Rattle.nextest_filter_evaluation.proofs.ready_expr.ReadyExpr.+holds.Given as goal

abbrev pub decreases-holds : goal.decreases-holds
decreases-holds l = goal.size-holds l

abbrev pub invariant-loop-rest : goal.invariant-loop-rest
invariant-loop-rest l = record {
  no_deeper : size-ReadyExpr l.rest ≤ size-ReadyExpr l.fn.self;
  says : SaysTurned l.negated (Holds (Says (map matcher_pattern l.fn.searchers) l.group l.name) (ready_of l.rest)) (Holds (Says (map matcher_pattern l.fn.searchers) l.group l.name) (ready_of l.fn.self));
  same : map matcher_pattern l.searchers ≡ map matcher_pattern l.fn.searchers;
}
