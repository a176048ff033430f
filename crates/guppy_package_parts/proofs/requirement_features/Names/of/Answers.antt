use Rattle.std.proofs.Common.{◌∙◌, ap, filter, sym, true}
use Rattle.guppy_package_parts.specs.LineViews.{is_in_half}
use Rattle.guppy_package_parts.specs.Lines.{is_kind, lines_of_kind}
use Rattle.guppy_package_parts.specs.Names.{each_once, listed}
use Rattle.guppy_package_parts.proofs.LineFacts.{filter-filter-filter, filter-true}
use Rattle.guppy_package_parts.proofs.requirement_features.Names.of.Goals as goal

pub returns : goal.returns
returns c =
    let half = is_in_half c.args.optional in
    let lines = c.args.lines.now in
    filter-true _ ∙ ap (λ ls. each_once (listed ls)) (sym (filter-filter-filter half (λ _. true) (is_kind c.args.kind) lines) ∙ ap (filter half) (filter-true (lines_of_kind c.args.kind lines)))
