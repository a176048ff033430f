-- The named features of a list of features.
use Rattle.std.specs.Prelude.{◌↔◌, List, [], ◌∷◌, Contains}
use Rattle.workspace_record.specs.Records.{Text}
use Rattle.workspace_record.specs.Features.{FeatureValue, LabelValue, Base, Named, Dep}
use Rattle.feature_account_rules.specs.RuleList.{named_of}

-- the package's id and the name, if the label has one
abbrev pub named_by : Text → LabelValue → List (Text × Text)
named_by id Base = []
named_by id (Named name) = (id, name) ∷ []
named_by id (Dep name) = []

abbrev pub named_pair : FeatureValue → List (Text × Text)
named_pair f = named_by f.package_id f.label

-- the features that are said to be on are the named ones among these, each by the id of its package and its name
-- (from Cargo's features)
abbrev pub AreNamedOn : List FeatureValue → List (Text × Text) → Type 0
AreNamedOn on named = (f : Text × Text) → Contains named f ↔ Contains on (named_of f.0 f.1)
