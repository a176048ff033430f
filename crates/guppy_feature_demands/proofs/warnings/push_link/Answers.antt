use Rattle.std.proofs.Common.{◌∙◌, ◌++◌, ap, flat_map, map}
use Rattle.workspace_record.specs.Records.{Link}
use Rattle.guppy_package_parts.specs.WarningViews.{warning_view}
use Rattle.guppy_feature_demands.specs.Warnings.{line_warnings}
use Rattle.guppy_feature_demands.proofs.LoopFacts.{each_all, each_more}
use Rattle.guppy_feature_demands.proofs.warnings.push_link.Goals as goal

pub loop-line-preserved : goal.loop-line-preserved
loop-line-preserved c =
    each_more (line_warnings c.args.nodes.now c.args.link.at.row.now) c.deref-lines.result.now c.loop-line.line-index c.line-item.result c.loop-line-test.true c.line-item.is _ _ _ c.loop-line.invariant c.in_ok-push_line.ensures

pub returns : goal.returns
returns c =
    let said = line_warnings c.args.nodes.now c.args.link.at.row.now in
    let lines = c.deref-lines.ensures.value ∙ ap (λ (l : Link). l.lines) c.row.view_is in
    each_all said c.deref-lines.result.now c.loop-line.line-index _ _ c.loop-line-test.false c.loop-line.invariant ∙ ap (λ ls. map warning_view c.args.warnings.now.items ++ flat_map said ls) lines
