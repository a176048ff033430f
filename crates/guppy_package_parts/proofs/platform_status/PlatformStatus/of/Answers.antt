use Rattle.std.proofs.Common.{sym}
use Rattle.guppy_package_parts.specs.LineViews.{lines_of}
use Rattle.guppy_package_parts.specs.Statuses.{specs_of}
use Rattle.guppy_package_parts.proofs.StatusFacts.{always_from, depends_from}
use Rattle.guppy_package_parts.proofs.platform_status.PlatformStatus.of.Goals as goal

pub returns-then-has_line_without_spec : goal.returns-then-has_line_without_spec
returns-then-has_line_without_spec c =
    always_from (specs_of (lines_of c.args.lines)) (sym c.if-has_line_without_spec.ensures)

pub returns-else-has_line_without_spec : goal.returns-else-has_line_without_spec
returns-else-has_line_without_spec c =
    depends_from c.split_first.result (λ p. p.0.now) (λ p. lines_of p.1) (lines_of c.args.lines) c.split_first.ensures c.if-is_none.ensures (sym c.if-has_line_without_spec.ensures)
