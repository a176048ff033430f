-- What the roots of a set of features are sorted by.
use Rattle.std.specs.Prelude.{ℕ}
use Rattle.workspace_record.specs.Features.{LabelValue}
use Rattle.guppy_feature_demands.specs.LabelViews.{label_view}
use Rattle.guppy_feature_nodes.specs.Graphs.{FeatureGraphValue, feature_at}
use Rattle.guppy_feature_views.specs.RootOrder.{package_place}
use Rattle.guppy_feature_views.specs.declared.root_order.RootPlace.{RootPlace}

-- the place of a feature's package in the record, its label, and its number
pub record PlaceValue : Type 0 where
  pub place : ℕ
  pub label : LabelValue
  pub node : ℕ

-- what the feature with a number is sorted by
abbrev pub place_at : FeatureGraphValue → ℕ → PlaceValue
place_at g v = record { place = package_place g v; label = (feature_at g v).label; node = v }

-- what contracts see of it
abbrev pub place_view : RootPlace → PlaceValue
place_view p = record { place = p.place; label = label_view p.label; node = p.node }
