use Rattle.std.proofs.Common.{◌≤◌}
use Rattle.nextest_filter_syntax.specs.declared.parsed_expr.ParsedExpr.{size-ParsedExpr}
use Rattle.nextest_filter_syntax.proofs.parsed_expr.ParsedExpr.+drop.Given as goal

abbrev pub invariant-loop-self : goal.invariant-loop-self
invariant-loop-self g l = size-ParsedExpr _ l.self ≤ size-ParsedExpr _ l.fn.self
