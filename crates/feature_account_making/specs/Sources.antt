-- What each rule of a record comes from.
use Rattle.std.specs.Prelude.{List, ◌++◌, map}
use Rattle.std.specs.List.{flat_map}
use Rattle.workspace_record.specs.Records.{Text, FeatureEntry, Package, Link, Workspace}
use Rattle.workspace_record.specs.Choices.{Choice}
use Rattle.workspace_record.specs.declared.choice.PlatformTable.{PlatformTable}
use Rattle.workspace_record.specs.Entries.{entry_value}
use Rattle.feature_account_rules.specs.Lines.{first_of_each}
use Rattle.feature_account_rules.specs.RuleList.{base_rules, chosen_features, given, link_rules, named_of, rules_of_entry}
use Rattle.feature_account_rules.specs.declared.rule.Rule.{Rule}

-- what a rule comes from: the choice, the need for its package, an entry, a line (from Cargo's reference, "Features")
pub data Source : Type 0 where
  -- the choice of features
  Chosen : Source
  -- each feature needs its package
  OfPackage : Source
  -- of the package with this id and its feature of this name, this entry
  OfEntry : Text → Text → Text → Source
  -- a line of the dependency to which the package with this id gives this name
  OfLine : Text → Text → Source

-- a rule, and what it comes from (from Cargo's reference, "Features")
pub record Sourced : Type 0 where
  pub source : Source
  pub rule : Rule

-- each of the rules comes from this
abbrev pub from_source : Source → List Rule → List Sourced
from_source source rules = map (λ r. record { source = source; rule = r }) rules

-- the rules of an entry of a feature come from the entry
abbrev pub sourced_entry : Workspace → PlatformTable → Package → FeatureEntry → Text → List Sourced
sourced_entry w table p f entry =
    from_source (OfEntry p.id f.name entry) (rules_of_entry w table p (named_of p.id f.name) (entry_value entry))

-- those of the entries of a feature, in their order
abbrev pub sourced_feature : Workspace → PlatformTable → Package → FeatureEntry → List Sourced
sourced_feature w table p f = flat_map (sourced_entry w table p f) f.enables

-- those of the entries of a package's features
abbrev pub sourced_entries : Workspace → PlatformTable → Package → List Sourced
sourced_entries w table p = flat_map (sourced_feature w table p) p.features

-- those of a package's features lead to it
abbrev pub sourced_package : Package → List Sourced
sourced_package p = from_source OfPackage (base_rules p)

-- those of a link come from its lines
abbrev pub sourced_link : Workspace → PlatformTable → Link → List Sourced
sourced_link w table link = from_source (OfLine link.from link.name) (link_rules w table link)

-- the rules in their order: of the choice, of each package's features, of their entries, of the links
-- (from Cargo's reference, "Features")
abbrev pub sourced_rules : Workspace → Choice → PlatformTable → List Sourced
sourced_rules w choice table =
    from_source Chosen (map given (chosen_features w choice)) ++ (flat_map sourced_package (first_of_each w.packages) ++ (flat_map (sourced_entries w table) (first_of_each w.packages) ++ flat_map (sourced_link w table) w.links))
