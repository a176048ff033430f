use Rattle.std.proofs.Common.{◌∙◌, sym, ap}
use Rattle.workspace_record.specs.Features.{feature_eq}
use Rattle.list_facts.proofs.Quantifiers.{list_any-map}
use Rattle.guppy_feature_demands.specs.HashedViews.{hashed_view}
use Rattle.guppy_feature_demands.specs.Nodes.{is_node}
use Rattle.guppy_feature_demands.proofs.nodes.NodeTable.has.Goals as goal

pub returns : goal.returns
returns c = record {
  answer = c.contains.ensures ∙ sym (list_any-map (feature_eq (hashed_view c.args.name)) hashed_view c.self.inside.names.keys) ∙ ap (λ ns. is_node ns (hashed_view c.args.name)) c.self.view_is;
}
