-- The order of the roots of a set of features.
use Rattle.std.specs.Prelude.{◌≡◌, ℕ, List, AllPairs}
use Rattle.std.specs.Ordering.{nat_cmp, on, then_cmp}
use Rattle.std.specs.declared.cmp.Ordering.{Ordering}
use Rattle.std.specs.declared.cmp.Ordering.TheVariants.{Less}
use Rattle.workspace_record.specs.Features.{label_cmp}
use Rattle.guppy_package_table.specs.Tables.{ids_of, place_among}
use Rattle.guppy_feature_nodes.specs.Graphs.{FeatureGraphValue, feature_at}

-- the place of a feature's package in the record (from guppy's `root_ids`)
abbrev pub package_place : FeatureGraphValue → ℕ → ℕ
package_place g v = place_among (ids_of g.rows.packages) (feature_at g v).package_id

-- features are ordered by the places of their packages in the record, and then by label: Base, then Named, then Dep, each by bytes
-- (from guppy's `root_ids`)
abbrev pub root_cmp : FeatureGraphValue → ℕ → ℕ → Ordering
root_cmp g = then_cmp (on (package_place g) nat_cmp) (on (λ v. (feature_at g v).label) label_cmp)

-- each feature is below those after it (from guppy's `root_ids`)
abbrev pub Ascend : FeatureGraphValue → List ℕ → Type 0
Ascend g nodes = AllPairs (λ u v. root_cmp g u v ≡ Less) nodes
