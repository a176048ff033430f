-- The rules of a record, a choice and a table, in their order.
pub use Rattle.workspace_record.specs.Features.{base_of, named_of, dep_of, line_start}
pub use Rattle.workspace_record.specs.Packages.{has_feature, has_optional}
use Rattle.std.specs.Prelude.{Bool, false, ◌&&◌, List, [], ◌∷◌, ◌++◌, map, filter, codes, if◌then◌else◌}
use Rattle.std.specs.List.{flat_map}
use Rattle.std.specs.Option.{option_map_or}
use Rattle.std.specs.Str.{bytes_eq}
use Rattle.workspace_record.specs.Records.{Text, FeatureEntry, Package, Line, Link, Workspace}
use Rattle.workspace_record.specs.Features.{FeatureValue}
use Rattle.workspace_record.specs.Choices.{Choice}
use Rattle.feature_account_rules.specs.Lines.{package_of, first_of_each, is_member, counting_lines}
use Rattle.workspace_record.specs.Entries.{EntryValue, OwnFeature, Dependency, Strong, Weak, entry_value}
use Rattle.workspace_record.specs.declared.choice.PlatformTable.{PlatformTable}
use Rattle.workspace_record.specs.declared.kinds.Standard.{Standard}
use Rattle.workspace_record.specs.declared.kinds.Standard.TheVariants as standard
use Rattle.feature_account_rules.specs.declared.rule.Premises.TheVariants as premises
use Rattle.feature_account_rules.specs.declared.rule.Rule.{Rule}

-- the feature is on whatever else is
abbrev pub given : FeatureValue → Rule
given f = record { premises = premises.None; conclusion = f }

-- where f is on, g is
abbrev pub implies : FeatureValue → FeatureValue → Rule
implies f g = record { premises = premises.One f; conclusion = g }

-- where f and g are on, h is
abbrev pub both_imply : FeatureValue → FeatureValue → FeatureValue → Rule
both_imply f g h = record { premises = premises.Two f g; conclusion = h }

-- the features that a package has beside its Base: those that it names, and its optional dependencies
abbrev pub own_features : Package → List FeatureValue
own_features p = map (λ f. named_of p.id f.name) p.features ++ map (dep_of p.id) p.optional

abbrev pub default_name : Text
default_name = codes "default"

-- the feature `default`, if the package names it
abbrev pub default_features : Package → List FeatureValue
default_features p = if has_feature p default_name then named_of p.id default_name ∷ [] else []

-- what the standard choice switches on in a workspace package beside its Base
abbrev pub standard_features : Standard → Package → List FeatureValue
standard_features standard.None p = []
standard_features standard.Default p = default_features p
standard_features standard.All p = own_features p

-- what the standard choice switches on in a package: its Base and the standard features, if it is a member
abbrev pub member_features : Workspace → Standard → Package → List FeatureValue
member_features w s p = if is_member w p.id then base_of p.id ∷ standard_features s p else []

-- what the choice switches on by itself: the members' features, and then the extras
abbrev pub chosen_features : Workspace → Choice → List FeatureValue
chosen_features w choice =
    flat_map (member_features w choice.standard) (first_of_each w.packages) ++ choice.extras

-- each feature of a package leads to its Base
abbrev pub base_rules : Package → List Rule
base_rules p = map (λ f. implies f (base_of p.id)) (own_features p)

-- the target of a link is found, and names the feature
abbrev pub target_has : Workspace → Link → Text → Bool
target_has w link x = option_map_or (λ p. has_feature p x) (package_of w link.to) false

-- the link is the package's, under this name, and its target names the feature
abbrev pub is_slash_link : Workspace → Package → Text → Text → Link → Bool
is_slash_link w p name x link = bytes_eq p.id link.from && bytes_eq name link.name && target_has w link x

-- the lines of a link by which an entry with a slash leads on: those that count, if the link is one of the entry's
abbrev pub slash_lines : Workspace → PlatformTable → Package → Text → Text → Link → List Line
slash_lines w table p name x link = if is_slash_link w p name x link then counting_lines w table link else []

-- the optional dependency of a strong entry, and with it the feature of its name
abbrev pub dependency_features : Package → Text → List FeatureValue
dependency_features p name =
    if has_optional p name then dep_of p.id name ∷ (if has_feature p name then named_of p.id name ∷ [] else []) else []

-- what a strong entry leads to by a link: the feature of the target, once for each line
abbrev pub strong_targets : Workspace → PlatformTable → Package → Text → Text → Link → List FeatureValue
strong_targets w table p name x link = map (λ _. named_of link.to x) (slash_lines w table p name x link)

-- what a strong entry leads to
abbrev pub strong_features : Workspace → PlatformTable → Package → Text → Text → List FeatureValue
strong_features w table p name x = flat_map (strong_targets w table p name x) w.links ++ dependency_features p name

-- a weak entry of f needs the dependency where the line is optional
abbrev pub weak_rule : FeatureValue → Package → Text → FeatureValue → Line → Rule
weak_rule f p name target line =
    if line.optional then both_imply f (dep_of p.id name) target else implies f target

-- what a weak entry of f says by a link
abbrev pub weak_rules : Workspace → PlatformTable → Package → FeatureValue → Text → Text → Link → List Rule
weak_rules w table p f name x link = map (weak_rule f p name (named_of link.to x)) (slash_lines w table p name x link)

-- what an entry of the feature f says
abbrev pub rules_of_entry : Workspace → PlatformTable → Package → FeatureValue → EntryValue → List Rule
rules_of_entry w table p f (OwnFeature name) = if has_feature p name then implies f (named_of p.id name) ∷ [] else []
rules_of_entry w table p f (Dependency name) = if has_optional p name then implies f (dep_of p.id name) ∷ [] else []
rules_of_entry w table p f (Strong name x) = map (implies f) (strong_features w table p name x)
rules_of_entry w table p f (Weak name x) = flat_map (weak_rules w table p f name x) w.links

-- the rules of the entries of a feature, in their order
abbrev pub feature_rules : Workspace → PlatformTable → Package → FeatureEntry → List Rule
feature_rules w table p f =
    flat_map (λ e. rules_of_entry w table p (named_of p.id f.name) (entry_value e)) f.enables

-- the rules of the entries of a package's features, in their order
abbrev pub entry_rules : Workspace → PlatformTable → Package → List Rule
entry_rules w table p = flat_map (feature_rules w table p) p.features

-- what a line asks for of a target that is found, beside its Base: its default features, and those that it lists
abbrev pub asked_features : Text → Line → Package → List FeatureValue
asked_features id line target =
    (if line.default_features && has_feature target default_name then named_of id default_name ∷ [] else []) ++ map (named_of id) (filter (has_feature target) line.features)

-- what a line leads to: of a target that is not found only the Base
abbrev pub line_features : Workspace → Link → Line → List FeatureValue
line_features w link line = base_of link.to ∷ option_map_or (asked_features link.to line) (package_of w link.to) []

-- the rules of a line
abbrev pub line_rules : Workspace → Link → Line → List Rule
line_rules w link line = map (implies (line_start link line)) (line_features w link line)

-- the rules of a link's lines that count, in their order
abbrev pub link_rules : Workspace → PlatformTable → Link → List Rule
link_rules w table link = flat_map (line_rules w link) (counting_lines w table link)

-- the rules, numbered from 0: of the choice, of each package's features, of their entries, of the links
-- (from Cargo's reference, "Features")
abbrev pub rule_list : Workspace → Choice → PlatformTable → List Rule
rule_list w choice table =
    map given (chosen_features w choice) ++ (flat_map base_rules (first_of_each w.packages) ++ (flat_map (entry_rules w table) (first_of_each w.packages) ++ flat_map (link_rules w table) w.links))
