-- The rules on packages, links and members, and the first place that breaks each.
use Rattle.std.specs.Prelude.{ℕ, min, ◌==◌, Bool, not, ◌&&◌, List, [], ◌∷◌, ◌++◌, Option, Some, None, is_none, is_ok, map, find, position, codes, length, unwrap_or}
use Rattle.std.specs.List.{list_any}
use Rattle.std.specs.Option.{option_map, option_map_or}
use Rattle.std.specs.Ordering.{eq_by_cmp}
use Rattle.std.specs.Str.{bytes_eq}
use Rattle.semver.specs.Parse.{version_parts, req_of}
use Rattle.workspace_record.specs.Records.{Text, Package, Link, Member, WorkspaceDetails}
use Rattle.workspace_record.specs.declared.kinds.TargetKind.{TargetKind}
use Rattle.workspace_record.specs.declared.kinds.TargetKind.TheVariants.{Lib, ProcMacro, Test, Bench, Bin, Example, BuildScript}
use Rattle.guppy_package_rules.specs.Paths.{path_cmp}
use Rattle.guppy_package_rules.specs.Places.{first_repeat}
use Rattle.guppy_package_rules.specs.declared.record_rule.RecordRule.{RecordRule}
use Rattle.guppy_package_rules.specs.declared.record_rule.RecordRule.TheVariants.{PackageIds, Versions, LinkEnds, LinkNames, LinkLines, Requirements, Members, MemberNames, MemberPaths, DefaultMembers, Targets, OptionalLines, FeatureNames, BinaryIds, BinaryIdTexts, RequiredFeatures, Groups, Filters}

-- semver reads the text as a version
abbrev pub is_version : Text → Bool
is_version text = is_ok (version_parts text)

-- semver reads the text as a requirement
abbrev pub is_requirement : Text → Bool
is_requirement text = is_ok (req_of text)

-- the id is that of a package
abbrev pub is_package_id : List Package → Text → Bool
is_package_id packages id = list_any (λ p. bytes_eq id p.id) packages

-- the id is that of a member
abbrev pub is_member_id : WorkspaceDetails → Text → Bool
is_member_id workspace id = list_any (λ m. bytes_eq id m.package_id) workspace.members

-- the name of a member's package, and nothing where no package has its id
abbrev pub member_name : List Package → Member → Text
member_name packages m = unwrap_or (option_map (λ p. p.name) (find (λ p. bytes_eq m.package_id p.id) packages)) []

-- what must be distinct of links: both ends and the name
abbrev pub link_key : Link → Text × Text × Text
link_key l = (l.from, l.to, l.name)

-- both ends and the name are the same
abbrev pub same_key : Text × Text × Text → Text × Text × Text → Bool
same_key a b = (bytes_eq a.0 b.0 && bytes_eq a.1 b.1) && bytes_eq a.2 b.2

-- what must be distinct of a package's targets: a library or proc macro by its sort alone, a build script too, and another target by kind and name
abbrev pub target_key : TargetKind → Text → Text
target_key Lib name = codes "library"
target_key ProcMacro name = codes "library"
target_key Test name = codes "test/" ++ name
target_key Bench name = codes "bench/" ++ name
target_key Bin name = codes "bin/" ++ name
target_key Example name = codes "example/" ++ name
target_key BuildScript name = codes "build-script"

-- no text stands at two places
abbrev pub is_distinct : List Text → Bool
is_distinct xs = is_none (first_repeat bytes_eq xs)

-- no two targets of the package have one key
abbrev pub has_distinct_targets : Package → Bool
has_distinct_targets p = is_distinct (map (λ t. target_key t.kind t.name) p.targets)

-- the smaller one of two places, where there are two
abbrev pub earlier : Option ℕ → Option ℕ → Option ℕ
earlier None b = b
earlier (Some a) None = Some a
earlier (Some a) (Some b) = Some (min a b)

-- the first place at which these rows break the rule; rules on features, binaries, groups and filters are not told from such rows
-- (from Cargo's metadata)
abbrev pub first_broken : List Package → List Link → WorkspaceDetails → RecordRule → Option ℕ
first_broken packages links workspace PackageIds = first_repeat bytes_eq (map (λ p. p.id) packages)
first_broken packages links workspace Versions = position (λ p. not (is_version p.version)) packages
first_broken packages links workspace LinkEnds = position (λ l. not (is_package_id packages l.from && is_package_id packages l.to)) links
first_broken packages links workspace LinkNames = first_repeat same_key (map link_key links)
first_broken packages links workspace LinkLines = position (λ l. length l.lines == 0) links
first_broken packages links workspace Requirements = position (λ l. not (is_requirement l.requirement)) links
first_broken packages links workspace Members =
    earlier (position (λ id. not (is_package_id packages id)) (map (λ m. m.package_id) workspace.members)) (first_repeat bytes_eq (map (λ m. m.package_id) workspace.members))
first_broken packages links workspace MemberNames = first_repeat bytes_eq (map (member_name packages) workspace.members)
first_broken packages links workspace MemberPaths = first_repeat (eq_by_cmp path_cmp) (map (λ m. m.path) workspace.members)
first_broken packages links workspace DefaultMembers = position (λ id. not (is_member_id workspace id)) workspace.default_members
first_broken packages links workspace Targets = position (λ p. not (has_distinct_targets p)) packages
first_broken packages links workspace OptionalLines = None
first_broken packages links workspace FeatureNames = None
first_broken packages links workspace BinaryIds = None
first_broken packages links workspace BinaryIdTexts = None
first_broken packages links workspace RequiredFeatures = None
first_broken packages links workspace Groups = None
first_broken packages links workspace Filters = None

-- the rules on links, but for that on requirements (from Cargo's metadata)
abbrev pub link_rules : List RecordRule
link_rules = LinkEnds ∷ (LinkNames ∷ (LinkLines ∷ []))

-- the rules on members and default members, and that on targets (from Cargo's metadata)
abbrev pub member_rules : List RecordRule
member_rules = Members ∷ (MemberNames ∷ (MemberPaths ∷ (DefaultMembers ∷ (Targets ∷ []))))

-- the rules on packages, links and members in the order in which they are tested (from Cargo's metadata)
abbrev pub package_rules : List RecordRule
package_rules = PackageIds ∷ (Versions ∷ (link_rules ++ (Requirements ∷ member_rules)))

-- the first of the rules that is broken, and the first place that breaks it, where each rule has the place given for it
-- (from Cargo's metadata)
abbrev pub first_fault : (RecordRule → Option ℕ) → List RecordRule → Option (RecordRule × ℕ)
first_fault place_of [] = None
first_fault place_of (rule ∷ rules) = option_map_or (λ place. Some (rule, place)) (place_of rule) (first_fault place_of rules)
