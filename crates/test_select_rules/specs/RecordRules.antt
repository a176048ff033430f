-- The rules that records keep, but for that on filters, and the first place that breaks one.
use Rattle.std.specs.Prelude.{ℕ, ◌==◌, Bool, false, not, ◌&&◌, ◌||◌, List, [], ◌∷◌, Option, None, map, position, codes, nat_eq}
use Rattle.std.specs.List.{list_any, list_all, starts_with}
use Rattle.std.specs.Option.{option_map_or, option_or}
use Rattle.std.specs.Str.{bytes_eq}
use Rattle.workspace_record.specs.Records.{Text, Package, Link, Workspace}
use Rattle.workspace_record.specs.Packages.{has_optional, package_of}
use Rattle.feature_account_rules.specs.RuleList.{has_feature}
use Rattle.guppy_package_rules.specs.Places.{first_repeat}
use Rattle.guppy_package_rules.specs.Rules.{earlier, is_distinct, first_broken, package_rules, first_fault}
use Rattle.guppy_package_rules.specs.declared.record_rule.RecordRule.{RecordRule}
use Rattle.guppy_package_rules.specs.declared.record_rule.RecordRule.TheVariants.{PackageIds, Versions, LinkEnds, LinkNames, LinkLines, Requirements, Members, MemberNames, MemberPaths, DefaultMembers, Targets, OptionalLines, FeatureNames, BinaryIds, BinaryIdTexts, RequiredFeatures, Groups, Filters}
use Rattle.test_select_rules.specs.Binaries.{binaries}

-- the link has an optional line
abbrev pub has_optional_line : Link → Bool
has_optional_line l = list_any (λ line. line.optional) l.lines

-- the name of the link is that of an optional dependency of its source
abbrev pub has_optional_name : Workspace → Link → Bool
has_optional_name w l = option_map_or (λ p. has_optional p l.name) (package_of w l.from) false

-- a link with an optional line has its name among its source's optional dependencies
-- (from Cargo's reference, "Optional dependencies")
abbrev pub names_its_optional_lines : Workspace → Link → Bool
names_its_optional_lines w l = not (has_optional_line l) || has_optional_name w l

-- no feature name of the package stands twice, and no optional name
abbrev pub has_distinct_features : Package → Bool
has_distinct_features p = is_distinct (map (λ f. f.name) p.features) && is_distinct p.optional

-- each feature that a target of the package requires is one of its own
abbrev pub has_required_features : Package → Bool
has_required_features p = list_all (λ t. list_all (has_feature p) t.required_features) p.targets

-- a space or a line feed
abbrev pub is_blank : ℕ → Bool
is_blank byte = (byte == 32) || (byte == 10)

-- names of this sort are not for groups that a record names
abbrev pub is_reserved : Text → Bool
is_reserved name = starts_with nat_eq name (codes "@")

-- the first place at which the record breaks a rule on optional lines, features, binaries or names of groups
abbrev pub further_broken : Workspace → RecordRule → Option ℕ
further_broken w PackageIds = None
further_broken w Versions = None
further_broken w LinkEnds = None
further_broken w LinkNames = None
further_broken w LinkLines = None
further_broken w Requirements = None
further_broken w Members = None
further_broken w MemberNames = None
further_broken w MemberPaths = None
further_broken w DefaultMembers = None
further_broken w Targets = None
further_broken w OptionalLines = position (λ l. not (names_its_optional_lines w l)) w.links
further_broken w FeatureNames = position (λ p. not (has_distinct_features p)) w.packages
further_broken w BinaryIds = first_repeat bytes_eq (map (λ b. b.id) (binaries w))
further_broken w BinaryIdTexts = position (λ b. list_any is_blank b.id) (binaries w)
further_broken w RequiredFeatures = position (λ p. not (has_required_features p)) w.packages
further_broken w Groups = earlier (position (λ g. is_reserved g.name) w.groups) (first_repeat bytes_eq (map (λ g. g.name) w.groups))
further_broken w Filters = None

-- the rules on optional lines, features, binaries and names of groups in the order in which they are tested
abbrev pub further_rules : List RecordRule
further_rules = OptionalLines ∷ (FeatureNames ∷ (BinaryIds ∷ (BinaryIdTexts ∷ (RequiredFeatures ∷ (Groups ∷ [])))))

-- the first rule that the record breaks, and the first place that breaks it: rules on packages, links and members come before those on optional lines, features, binaries and names of groups
abbrev pub fault_of : Workspace → Option (RecordRule × ℕ)
fault_of w = option_or (first_fault (first_broken w.packages w.links w.workspace) package_rules) (first_fault (further_broken w) further_rules)
