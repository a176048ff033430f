use Rattle.std.proofs.Common.{◌≡◌, ◌≤◌}
use Rattle.nextest_filter_syntax.specs.declared.parsed_expr.ParsedExpr.{size-ParsedExpr}
use Rattle.nextest_filter_syntax.specs.contracts.parsed_expr.ParsedExprPartialEq.TheImpl.{ghosts}
use Rattle.nextest_filter_syntax.proofs.parsed_expr.ParsedExprPartialEq.+eq.Given as goal

abbrev pub invariant-loop-rest : goal.invariant-loop-rest
invariant-loop-rest g l =
    let same = (ghosts g.row.S g.S.PartialEq g.S.PartialEq-dict).eq in
    record {
      no_deeper : size-ParsedExpr _ l.rest ≤ size-ParsedExpr _ l.fn.self;
      other_no_deeper : size-ParsedExpr _ l.other ≤ size-ParsedExpr _ l.fn.other;
      same : same l.rest l.other ≡ same l.fn.self l.fn.other;
    }
