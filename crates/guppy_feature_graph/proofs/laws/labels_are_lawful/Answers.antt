use Rattle.guppy_feature_demands.specs.LabelViews.{label_ties, label_view, labels_equivalence, labels_total, same_label_writes}
use Rattle.guppy_feature_graph.proofs.laws.labels_are_lawful.Goals as goal

pub returns : goal.returns
returns c = record {
  labels = record {
    equality = labels_equivalence;
    order = labels_total;
    ties = λ a b. label_ties (label_view a) (label_view b);
    hash = λ a b. same_label_writes (label_view a) (label_view b);
  };
}
