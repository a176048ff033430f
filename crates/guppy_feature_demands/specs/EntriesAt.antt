-- The entries of packages' features, each with where it stands, and what is said of one by one.
use Rattle.std.specs.Prelude.{ℕ, List, map}
use Rattle.std.specs.List.{flat_map}
use Rattle.workspace_record.specs.Records.{Text, FeatureEntry, Package, Link}
use Rattle.workspace_record.specs.Features.{FeatureValue}
use Rattle.guppy_package_parts.specs.Warnings.{Warning}
use Rattle.guppy_feature_demands.specs.Demands.{DemandValue, entry_demands, same_name}
use Rattle.workspace_record.specs.Entries.{EntryValue, entry_value}
use Rattle.guppy_feature_demands.specs.Nodes.{first_of_each, named_of}
use Rattle.guppy_feature_demands.specs.Warnings.{entry_warnings}

-- an entry, the feature in whose list it stands, and that feature's package
pub record EntryPlace : Type 0 where
  pub package_id : Text
  pub feature : Text
  pub entry : EntryValue

-- the entries of a package's feature
abbrev pub feature_entries : Text → FeatureEntry → List EntryPlace
feature_entries id f = map (λ e. record { package_id = id; feature = f.name; entry = entry_value e }) f.enables

-- the entries of a package's features, of those of one name the first
abbrev pub package_entries : Package → List EntryPlace
package_entries p = flat_map (feature_entries p.id) (first_of_each same_name p.features)

-- what an entry demands where it stands
abbrev pub at_demands : List FeatureValue → List (ℕ × Link) → EntryPlace → List DemandValue
at_demands nodes links at = entry_demands nodes links at.package_id (named_of at.package_id at.feature) at.entry

-- the warnings of an entry where it stands
abbrev pub at_warnings : List FeatureValue → List (ℕ × Link) → EntryPlace → List Warning
at_warnings nodes links at = entry_warnings nodes links at.package_id at.feature at.entry
