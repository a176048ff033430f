-- What is written for a choice.
use Rattle.std.specs.Prelude.{List, [], ◌∷◌, ◌++◌, codes}
use Rattle.serde_json.specs.Data.{Data, string}
use Rattle.workspace_record.specs.Records.{Text}
use Rattle.workspace_record.specs.Choices.{Choice}
use Rattle.workspace_record.specs.Features.{LabelValue, Base, Named, Dep, FeatureValue}
use Rattle.workspace_record.specs.declared.kinds.Standard.{Standard}
use Rattle.workspace_record.specs.declared.kinds.Standard.TheVariants as standard
use Rattle.record_writing.specs.Members.{object_of}
use Rattle.record_writing.specs.Rows.{list_of}

-- a standard choice, by name
abbrev pub standard_name : Standard → Text
standard_name standard.None = codes "none"
standard_name standard.Default = codes "default"
standard_name standard.All = codes "all"

-- a feature as Cargo's command line writes it; the package itself is the empty text
abbrev pub label_text : LabelValue → Text
label_text Base = []
label_text (Named name) = name
label_text (Dep name) = codes "dep:" ++ name

-- the members of a package and a word for a feature of it
abbrev pub pair_members : Text → Text → List (Text × Data)
pair_members package_id feature =
    (codes "package", string package_id)
    ∷ (codes "feature", string feature)
    ∷ []

-- a package and a word for a feature of it
abbrev pub pair_data : Text → Text → Data
pair_data package_id feature = object_of (pair_members package_id feature)

-- a feature of a package
abbrev pub extra_data : FeatureValue → Data
extra_data f = pair_data f.package_id (label_text f.label)

-- the members of a choice
abbrev pub choice_members : Choice → List (Text × Data)
choice_members c =
    (codes "standard", string (standard_name c.standard))
    ∷ (codes "extras", list_of extra_data c.extras)
    ∷ []

-- a choice
abbrev pub choice_data : Choice → Data
choice_data c = object_of (choice_members c)
