use Rattle.std.proofs.Common.{◌++◌, map, string_bytes, ap, ◌∙◌}
use Rattle.workspace_record.specs.Records.{Text}
use Rattle.guppy_package_parts.specs.WarningViews.{warning_view}
use Rattle.guppy_feature_demands.specs.Nodes.{named_of}
use Rattle.guppy_feature_demands.specs.StageViews.{place_view}
use Rattle.guppy_feature_demands.specs.Warnings.{missing}
use Rattle.guppy_feature_demands.proofs.LoopFacts.{said_all, said_more}
use Rattle.guppy_feature_demands.proofs.warnings.push_listed.Goals as goal

pub loop-name-preserved : goal.loop-name-preserved
loop-name-preserved c =
    said_more (λ (x : Text). missing c.args.nodes.now (place_view c.args.stage) (named_of c.args.to.text.now x)) (string_bytes) c.args.names.now c.loop-name.name-index c.name-item.result c.loop-name-test.true c.name-item.is _ _ _ c.loop-name.invariant (c.in_ok-push_missing.ensures ∙ ap (λ f. map warning_view c.loop-name.warnings.items ++ missing c.args.nodes.now (place_view c.args.stage) f) (c.named-feature.ensures ∙ ap (named_of c.args.to.text.now) c.as_str.ensures.value))

pub returns : goal.returns
returns c = said_all (λ (x : Text). missing c.args.nodes.now (place_view c.args.stage) (named_of c.args.to.text.now x)) (string_bytes) c.args.names.now c.loop-name.name-index _ _ c.loop-name-test.false c.loop-name.invariant
