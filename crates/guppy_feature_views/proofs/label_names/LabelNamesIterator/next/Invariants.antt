use Rattle.std.proofs.Common.{◌≡◌, length, map}
use Rattle.std.specs.Slice.Iter.{iter_rest}
use Rattle.guppy_feature_demands.specs.LabelViews.{label_view}
use Rattle.guppy_feature_views.specs.Labels.{names_of}
use Rattle.guppy_feature_views.proofs.label_names.LabelNamesIterator.next.Given as goal

abbrev pub invariant-loop-label : goal.invariant-loop-label
invariant-loop-label l = record {
  kind : l.self.kind ≡ l.initial.self.kind;
  names : names_of l.initial.self.kind (map label_view (iter_rest l.initial.self.labels)) ≡ names_of l.initial.self.kind (map label_view (iter_rest l.self.labels));
}

abbrev pub decreases-loop-label : goal.decreases-loop-label
decreases-loop-label l = length (iter_rest l.self.labels)
