use Rattle.nextest_filter_evaluation.specs.Ready.{SayAlike, ready_of, turned_over}
use Rattle.nextest_filter_evaluation.proofs.ready_expr.ReadyExpr.turned_over.Given as goal

abbrev pub invariant-loop-self : goal.invariant-loop-self
invariant-loop-self l =
    SayAlike (turned_over l.self (ready_of l.built)) (turned_over l.fn.self (ready_of l.fn.innermost))
