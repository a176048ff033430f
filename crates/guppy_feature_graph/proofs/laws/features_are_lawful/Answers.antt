use Rattle.workspace_record.specs.Features.{feature_ties, same_feature_writes}
use Rattle.guppy_feature_demands.specs.IdViews.{id_view, ids_equivalence, ids_total}
use Rattle.guppy_feature_graph.proofs.laws.features_are_lawful.Goals as goal

pub returns : goal.returns
returns c = record {
  features = record {
    equality = ids_equivalence;
    order = ids_total;
    ties = λ a b. feature_ties (id_view a) (id_view b);
    hash = λ a b. same_feature_writes (id_view a) (id_view b);
  };
}
