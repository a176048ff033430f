use Rattle.std.specs.Prelude.{List, Option, map, option_map}
use Rattle.workspace_record.specs.Records.{Package, Target, Text}
use Rattle.guppy_package_table.specs.declared.package_details.PackageDetails.{PackageDetails}
use Rattle.guppy_package_table.specs.declared.build_targets.BuildTargets.{BuildTargets}
use Rattle.guppy_package_table.specs.declared.named_features.NamedFeatures.{NamedFeatures}

-- what contracts see of a package's details: its row
abbrev pub row_of : PackageDetails → Package
row_of details = details.row.now

-- the path of a member in the workspace
abbrev pub member_path_of : PackageDetails → Option Text
member_path_of details = option_map (λ p. p.now) details.member_path

-- the rows of the targets that are still to come
abbrev pub targets_left : BuildTargets → List Target
targets_left targets = targets.left.now

-- the names that are still to come
abbrev pub names_left : NamedFeatures → List Text
names_left names = map (λ f. f.name) names.left.now
