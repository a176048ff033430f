-- Features that the packages of a record have.
use Rattle.std.specs.Prelude.{Bool, true, false, ◌&&◌}
use Rattle.std.specs.Option.{option_map_or}
use Rattle.workspace_record.specs.Records.{Package, Workspace}
use Rattle.workspace_record.specs.Features.{LabelValue, Base, Named, Dep, FeatureValue}
use Rattle.feature_account_rules.specs.Lines.{is_workspace_package, package_of}
use Rattle.feature_account_rules.specs.RuleList.{has_feature, has_optional}

-- the package has a feature of this label (from Cargo's reference, "Features")
abbrev pub has_label : Package → LabelValue → Bool
has_label p Base = true
has_label p (Named name) = has_feature p name
has_label p (Dep name) = has_optional p name

-- the package that the feature's id finds has it (from Cargo's reference, "Features")
abbrev pub is_known_feature : Workspace → FeatureValue → Bool
is_known_feature w f = option_map_or (λ p. has_label p f.label) (package_of w f.package_id) false

-- the feature is one that a workspace package has (from Cargo's reference, "Features")
abbrev pub is_known_extra : Workspace → FeatureValue → Bool
is_known_extra w f = is_workspace_package w f.package_id && is_known_feature w f
