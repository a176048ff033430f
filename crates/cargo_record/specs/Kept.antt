-- The packages of a record, as Cargo lists them.
use Rattle.std.specs.Prelude.{Bool, ◌||◌, not, List, bytes_eq, filter}
use Rattle.std.specs.List.{list_all, list_any}
use Rattle.workspace_record.specs.Records.{Text, FeatureEntry, Target, Package, Workspace}
use Rattle.workspace_record.specs.Packages.{is_member}
use Rattle.cargo_metadata.specs.Packages.{Declaring}

-- one of the features has this name
abbrev pub is_feature : List FeatureEntry → Text → Bool
is_feature features name = list_any (λ f. bytes_eq name f.name) features

-- each feature that the target requires is one of these
abbrev pub requires_own : List FeatureEntry → Target → Bool
requires_own features target = list_all (is_feature features) target.required_features

-- a member's targets require features of its own alone
abbrev pub owns_targets : Workspace → Declaring → Bool
owns_targets w p = not (is_member w p.row.id) || list_all (requires_own p.row.features) p.row.targets

-- a package with those of its targets that require features of its own
abbrev pub kept : Package → Package
kept p = record p { targets = filter (requires_own p.features) p.targets }

-- a package with those of its targets that require features of its own
abbrev pub kept_row : Declaring → Package
kept_row p = kept p.row
