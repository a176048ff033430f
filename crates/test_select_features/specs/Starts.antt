-- Where a resolve begins: at the features of members that a choice's filter takes.
use Rattle.std.specs.Prelude.{◌⊎◌, ℕ, Contains}
use Rattle.workspace_record.specs.Choices.{Choice}
use Rattle.workspace_record.specs.declared.kinds.Standard.{Standard}
use Rattle.workspace_record.specs.declared.kinds.Standard.TheVariants as chosen
use Rattle.guppy_package_graph.specs.Workspaces.{IsMemberPlace}
use Rattle.guppy_feature_nodes.specs.Graphs.{FeatureGraphValue, feature_at}
use Rattle.guppy_feature_graph.specs.PackageFeatures.{IsOfPackage}
use Rattle.guppy_feature_graph.specs.StandardFilters.{Takes}
use Rattle.guppy_feature_graph.specs.declared.standard_features.StandardFeatures.{StandardFeatures}
use Rattle.guppy_feature_graph.specs.declared.standard_features.StandardFeatures.TheVariants.{None, Default, All}

-- the standard features that a choice names (from Cargo's `--features`)
abbrev pub standard_of : Standard → StandardFeatures
standard_of chosen.None = None
standard_of chosen.Default = Default
standard_of chosen.All = All

-- the node is a feature of a member, and it is a standard one of the choice, or an extra (from Cargo's `--features`)
pub record IsStart (g : FeatureGraphValue) (choice : Choice) (v : ℕ) : Type 0 where
  pub of_member : IsOfPackage g (IsMemberPlace g.rows) v
  pub taken : Takes (standard_of choice.standard) g (feature_at g v) ⊎ Contains choice.extras (feature_at g v)
