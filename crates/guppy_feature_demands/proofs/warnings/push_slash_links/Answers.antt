use Rattle.std.proofs.Common.{◌∙◌, ◌++◌, ℕ, ap, map}
use Rattle.guppy_package_parts.specs.WarningViews.{warning_view}
use Rattle.workspace_record.specs.Records.{Link}
use Rattle.guppy_feature_demands.specs.Nodes.{named_of}
use Rattle.guppy_feature_demands.specs.NumberedViews.{link_view}
use Rattle.guppy_feature_demands.specs.StageViews.{place_view}
use Rattle.guppy_feature_demands.specs.Warnings.{missing}
use Rattle.guppy_feature_demands.proofs.LoopFacts.{said_all, said_more}
use Rattle.guppy_feature_demands.proofs.warnings.push_slash_links.Goals as goal

pub loop-link-preserved : goal.loop-link-preserved
loop-link-preserved c =
    said_more (λ (link : ℕ × Link). missing c.args.nodes.now (place_view c.args.stage) (named_of link.1.to c.args.feature.now)) (link_view) c.args.links.now c.loop-link.link-index c.link-item.result c.loop-link-test.true c.link-item.is _ _ _ c.loop-link.invariant (c.in_ok-push_missing.ensures ∙ ap (λ f. map warning_view c.loop-link.warnings.items ++ missing c.args.nodes.now (place_view c.args.stage) f) (c.named-to.ensures ∙ ap (λ id. named_of id c.args.feature.now) (c.of.ensures ∙ c.as_str.ensures.value ∙ ap (λ (l : Link). l.to) c.row.view_is)))

pub returns : goal.returns
returns c = said_all (λ (link : ℕ × Link). missing c.args.nodes.now (place_view c.args.stage) (named_of link.1.to c.args.feature.now)) (link_view) c.args.links.now c.loop-link.link-index _ _ c.loop-link-test.false c.loop-link.invariant
