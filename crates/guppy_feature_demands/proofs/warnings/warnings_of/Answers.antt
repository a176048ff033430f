use Rattle.std.proofs.Common.{◌∙◌, ◌++◌, ℕ, [], ap, flat_map, map}
use Rattle.workspace_record.specs.Records.{Link}
use Rattle.guppy_feature_demands.specs.EntriesAt.{at_warnings}
use Rattle.guppy_feature_demands.specs.EntryAtView.{entry_at_view}
use Rattle.guppy_feature_demands.specs.NumberedViews.{ends_view}
use Rattle.guppy_feature_demands.specs.Warnings.{link_warnings}
use Rattle.guppy_feature_demands.proofs.LoopFacts.{said_all, said_more}
use Rattle.guppy_feature_demands.proofs.warnings.warnings_of.Goals as goal

pub loop-at-preserved : goal.loop-at-preserved
loop-at-preserved c =
    said_more (at_warnings c.args.nodes.now c.args.links.now) (entry_at_view) c.args.entries.now c.loop-at.at-index c.at-item.result c.loop-at-test.true c.at-item.is [] _ _ c.loop-at.invariant c.in_ok-push_entry.ensures

pub loop-link-preserved : goal.loop-link-preserved
loop-link-preserved c =
    said_more (λ (link : ℕ × Link). link_warnings c.args.nodes.now link.1) (ends_view) c.all-all.result.now c.loop-link.link-index c.link-item.result c.loop-link-test.true c.link-item.is _ _ _ c.loop-link.invariant c.in_ok-push_link.ensures

pub returns : goal.returns
returns c =
    let said = λ (link : ℕ × Link). link_warnings c.args.nodes.now link.1 in
    let entries = flat_map (at_warnings c.args.nodes.now c.args.links.now) (map entry_at_view c.args.entries.now) in
    said_all said (ends_view) c.all-all.result.now c.loop-link.link-index _ _ c.loop-link-test.false c.loop-link.invariant ∙ ap (λ ls. entries ++ flat_map said ls) c.all-all.ensures
