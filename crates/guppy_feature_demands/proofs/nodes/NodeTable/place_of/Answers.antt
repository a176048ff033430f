use Rattle.std.proofs.Common.{◌∙◌, sym, ap}
use Rattle.workspace_record.specs.Features.{feature_eq}
use Rattle.guppy_feature_demands.specs.HashedViews.{hashed_view}
use Rattle.guppy_feature_demands.specs.Nodes.{number_of}
use Rattle.guppy_feature_demands.proofs.NumberFacts.{at_end, at_place, position_or_len-map}
use Rattle.guppy_feature_demands.proofs.nodes.NodeTable.place_of.Goals as goal

pub returns-in-Some : goal.returns-in-Some
returns-in-Some c =
    let test = feature_eq (hashed_view c.args.name) in
    let keys = c.self.inside.names.keys in
    record {
      number = sym (at_place (λ k. test (hashed_view k)) keys _ (sym c.get_index_of.ensures.index ∙ c.in-Some.is)) ∙ sym (position_or_len-map test hashed_view keys) ∙ ap (λ ns. number_of ns (hashed_view c.args.name)) c.self.view_is;
    }

pub returns-in-None : goal.returns-in-None
returns-in-None c =
    let test = feature_eq (hashed_view c.args.name) in
    let keys = c.self.inside.names.keys in
    record {
      number = c.len.ensures.len ∙ sym (at_end (λ k. test (hashed_view k)) keys (sym c.get_index_of.ensures.index ∙ c.in-None.is)) ∙ sym (position_or_len-map test hashed_view keys) ∙ ap (λ ns. number_of ns (hashed_view c.args.name)) c.self.view_is;
    }
