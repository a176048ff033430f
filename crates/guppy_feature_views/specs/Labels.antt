-- Lists of labels in order.
use Rattle.std.specs.Prelude.{◌≡◌, ◌↔◌, List, ◌∷◌, ◌++◌, Option, Some, None, AllPairs, Contains, map}
use Rattle.std.specs.List.{filter_map}
use Rattle.std.specs.declared.cmp.Ordering.TheVariants.{Less}
use Rattle.workspace_record.specs.Records.{Package, Text}
use Rattle.workspace_record.specs.Features.{LabelValue, Base, Named, Dep, FeatureValue, label_cmp}
use Rattle.guppy_feature_demands.specs.declared.feature_kind.FeatureKind.{FeatureKind}
use Rattle.guppy_feature_demands.specs.declared.feature_kind.FeatureKind.TheVariants as kind

-- each label is below those after it: Base, then Named, then Dep, each by bytes
abbrev pub Ascend : List LabelValue → Type 0
Ascend labels = AllPairs (λ a b. label_cmp a b ≡ Less) labels

-- the labels that pass, each once, ascending (from guppy's `FeatureList`)
pub record AreLabels (passes : LabelValue → Type 0) (labels : List LabelValue) : Type 0 where
  pub ascending : Ascend labels
  pub each : (l : LabelValue) → Contains labels l ↔ passes l

-- the name in a label of a kind; the package itself has none
abbrev pub name_by : FeatureKind → LabelValue → Option Text
name_by kind.Base l = None
name_by kind.Named Base = None
name_by kind.Named (Named name) = Some name
name_by kind.Named (Dep name) = None
name_by kind.OptionalDependency Base = None
name_by kind.OptionalDependency (Named name) = None
name_by kind.OptionalDependency (Dep name) = Some name

-- the names of the labels of a kind, in their order
abbrev pub names_of : FeatureKind → List LabelValue → List Text
names_of kind labels = filter_map (name_by kind) labels

-- the labels of a package's features: itself, those that it names, and its optional dependencies (from guppy's `FeatureList`)
abbrev pub labels_of : Package → List LabelValue
labels_of p = Base ∷ (map (λ f. Named f.name) p.features ++ map Dep p.optional)

-- the features of a package that have these labels
abbrev pub features_with : Text → List LabelValue → List FeatureValue
features_with id labels = map (λ l. record { package_id = id; label = l }) labels
