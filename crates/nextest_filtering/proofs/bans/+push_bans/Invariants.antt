use Rattle.std.proofs.Common.{◌≡◌, ◌≤◌, ◌++◌, reverse}
use Rattle.nextest_filter_syntax.specs.declared.parsed_expr.ParsedExpr.{size-ParsedExpr}
use Rattle.nextest_filtering.specs.Acceptance.{bans}
use Rattle.nextest_filtering.specs.Filters.{filter_of}
use Rattle.nextest_filtering.proofs.bans.+push_bans.Given as goal

abbrev pub invariant-loop-rest : goal.invariant-loop-rest
invariant-loop-rest l = record {
  no_deeper : size-ParsedExpr _ l.rest ≤ size-ParsedExpr _ l.fn.expr;
  same : l.errors.items ++ reverse (bans l.kind (filter_of l.rest)) ≡ l.fn.errors.items ++ reverse (bans l.kind (filter_of l.fn.expr));
}
