-- The kinds of features, and how a link between two features is declared: by cases.
use Rattle.std.specs.Prelude.{Bool, true, false}
use Rattle.workspace_record.specs.Features.{LabelValue, Base, Named, Dep}
use Rattle.guppy_feature_demands.specs.declared.feature_kind.FeatureKind.{FeatureKind}
use Rattle.guppy_feature_demands.specs.declared.feature_kind.FeatureKind.TheVariants as kind
use Rattle.guppy_feature_demands.specs.declared.link_declarations.LinkDeclarations.{LinkDeclarations}
use Rattle.guppy_feature_demands.specs.declared.link_declarations.LinkDeclarations.TheVariants.{Unsplit, Required, Optional}

-- the kind of a label (from guppy's `FeatureId`, `FeatureLabel`)
abbrev pub kind_of : LabelValue → FeatureKind
kind_of Base = kind.Base
kind_of (Named name) = kind.Named
kind_of (Dep name) = kind.OptionalDependency

abbrev pub is_base_kind : FeatureKind → Bool
is_base_kind kind.Base = true
is_base_kind kind.Named = false
is_base_kind kind.OptionalDependency = false

abbrev pub is_named_kind : FeatureKind → Bool
is_named_kind kind.Base = false
is_named_kind kind.Named = true
is_named_kind kind.OptionalDependency = false

abbrev pub is_dep_kind : FeatureKind → Bool
is_dep_kind kind.Base = false
is_dep_kind kind.Named = false
is_dep_kind kind.OptionalDependency = true

-- a whole link is declared by required and by optional lines, its halves by those of one sort
abbrev pub has_required : LinkDeclarations → Bool
has_required Unsplit = true
has_required Required = true
has_required Optional = false

abbrev pub has_optional : LinkDeclarations → Bool
has_optional Unsplit = true
has_optional Required = false
has_optional Optional = true
