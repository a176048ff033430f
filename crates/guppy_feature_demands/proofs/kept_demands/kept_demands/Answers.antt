use Rattle.std.proofs.Common.{◌∙◌, ◌++◌, List, ap, flat_map, map}
use Rattle.guppy_feature_demands.specs.Demands.{base_demands, kept_demands, link_demands}
use Rattle.guppy_feature_demands.specs.DemandViews.{demand_view, numbered_view}
use Rattle.guppy_feature_demands.specs.EntriesAt.{at_demands}
use Rattle.guppy_feature_demands.specs.EntryAtView.{entry_at_view}
use Rattle.guppy_feature_demands.specs.declared.demand.Demand.{Demand}
use Rattle.guppy_feature_demands.specs.declared.demand.NumberedDemand.{NumberedDemand}
use Rattle.guppy_feature_demands.proofs.KeptFacts.{kept_parts}
use Rattle.guppy_feature_demands.proofs.kept_demands.kept_demands.Goals as goal

pub returns : goal.returns
returns c =
    let nodes = c.args.nodes.now in
    let entries = flat_map (at_demands nodes c.args.links.now) (map entry_at_view c.args.entries.now) in
    let kept = λ (ds : List Demand). kept_demands nodes (map demand_view ds) in
    kept_parts nodes (base_demands nodes) entries (flat_map link_demands c.args.links.now) (map numbered_view c.new-kept.result.items) (map numbered_view c.keep_demands.new.kept.items) (map numbered_view c.keep_demands-2.new.kept.items) (map numbered_view c.keep_demands-3.new.kept.items)
    (ap (λ (ds : List NumberedDemand). map numbered_view ds) c.new-kept.ensures.items)
    (c.in_ok-keep_demands.ensures ∙ ap (λ ks. map numbered_view c.new-kept.result.items ++ ks) (ap kept c.deref.ensures.value ∙ ap (kept_demands nodes) c.in_ok-base_demands.ensures))
    (c.in_ok-keep_demands-2.ensures ∙ ap (λ ks. map numbered_view c.keep_demands.new.kept.items ++ ks) (ap kept c.deref-2.ensures.value ∙ ap (kept_demands nodes) c.in_ok-entry_demands.ensures))
    (c.in_ok-keep_demands-3.ensures ∙ ap (λ ks. map numbered_view c.keep_demands-2.new.kept.items ++ ks) (ap kept c.deref-3.ensures.value ∙ ap (kept_demands nodes) c.in_ok-link_demands.ensures))
