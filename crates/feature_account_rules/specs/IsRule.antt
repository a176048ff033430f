-- The rules of a record, a choice and a table, one case for each way in which Cargo's features lead on.
use Rattle.std.specs.Prelude.{◌≡◌, true, false, List, Option, Some, None, ◌⊎◌, Contains}
use Rattle.workspace_record.specs.Records.{Text, Package, Line, Link, Workspace}
use Rattle.workspace_record.specs.Features.{FeatureValue}
use Rattle.workspace_record.specs.Choices.{Choice}
use Rattle.workspace_record.specs.Tables.{answer}
use Rattle.workspace_record.specs.declared.choice.PlatformTable.{PlatformTable}
use Rattle.workspace_record.specs.declared.kinds.LineKind.TheVariants.{Dev}
use Rattle.workspace_record.specs.declared.kinds.Standard.TheVariants.{Default, All}
use Rattle.workspace_record.specs.Entries.{OwnFeature, Dependency, Strong, Weak}
use Rattle.feature_account_rules.specs.IsEntry.{IsEntry}
use Rattle.feature_account_rules.specs.Lines.{package_of}
use Rattle.feature_account_rules.specs.RuleList.{base_of, named_of, dep_of, given, implies, both_imply, default_name, line_start}
use Rattle.feature_account_rules.specs.declared.rule.Rule.{Rule}

-- the package is the one that its id finds
abbrev pub IsFound : Workspace → Package → Type 0
IsFound w p = package_of w p.id ≡ Some p

-- the id is that of a member
abbrev pub IsMember : Workspace → Text → Type 0
IsMember w id = (path : Text) × Contains w.workspace.members (record { package_id = id; path = path })

-- the package names the feature, with these entries
abbrev pub Names : Package → Text → List Text → Type 0
Names p name enables = Contains p.features (record { name = name; enables = enables })

-- the package names the feature
abbrev pub HasFeature : Package → Text → Type 0
HasFeature p name = (enables : List Text) × Names p name enables

-- the text is an entry of the package's feature
abbrev pub HasEntry : Package → Text → Text → Type 0
HasEntry p name entry = (enables : List Text) × Names p name enables × Contains enables entry

-- the target of the link is found, and names the feature
abbrev pub TargetHas : Workspace → Link → Text → Type 0
TargetHas w link name = (p : Package) × (package_of w link.to ≡ Some p) × HasFeature p name

-- a line for the platforms of a spec is in force
abbrev pub IsInForce : PlatformTable → Option Text → Type 0
IsInForce table None = Unit {0}
IsInForce table (Some spec) = (answer table spec ≡ Some true) ⊎ ((answer table spec ≡ None) × (table.unknown_counts ≡ true))

-- the source of a link is a workspace package
abbrev pub IsInWorkspace : Workspace → Text → Type 0
IsInWorkspace w id = ((p : Package) × Contains w.packages p × (p.id ≡ id)) × IsMember w id

-- a line of the link counts: it is in force, and a development line is of a workspace package
pub record Counts (w : Workspace) (table : PlatformTable) (link : Link) (line : Line) : Type 0 where
  pub declared : Contains link.lines line
  pub in_force : IsInForce table line.spec
  pub in_workspace : line.kind ≡ Dev → IsInWorkspace w link.from

-- by this line the package's dependency of this name has the feature
pub record LeadsTo (w : Workspace) (table : PlatformTable) (p : Package) (name feature : Text) (link : Link) (line : Line) : Type 0 where
  pub listed : Contains w.links link
  pub from : link.from ≡ p.id
  pub named : link.name ≡ name
  pub target : TargetHas w link feature
  pub counts : Counts w table link line

-- one case for each way in which one feature leads to another (from Cargo's reference, "Features")
pub data IsRule (w : Workspace) (choice : Choice) (table : PlatformTable) : Rule → Type 0 where
  -- each workspace package is on, and by choice its default feature, or all of its features
  member_base : {p : Package} → IsFound w p → IsMember w p.id → IsRule w choice table (given (base_of p.id))
  member_default : {p : Package} → IsFound w p → IsMember w p.id → choice.standard ≡ Default → HasFeature p default_name → IsRule w choice table (given (named_of p.id default_name))
  member_named : {p : Package} {name : Text} → IsFound w p → IsMember w p.id → choice.standard ≡ All → HasFeature p name → IsRule w choice table (given (named_of p.id name))
  member_dep : {p : Package} {name : Text} → IsFound w p → IsMember w p.id → choice.standard ≡ All → Contains p.optional name → IsRule w choice table (given (dep_of p.id name))
  -- each extra is on
  extra : {f : FeatureValue} → Contains choice.extras f → IsRule w choice table (given f)
  -- each feature of a package leads to the package
  named_base : {p : Package} {name : Text} → IsFound w p → HasFeature p name → IsRule w choice table (implies (named_of p.id name) (base_of p.id))
  dep_base : {p : Package} {name : Text} → IsFound w p → Contains p.optional name → IsRule w choice table (implies (dep_of p.id name) (base_of p.id))
  -- an entry leads to a feature of the package, or to an optional dependency
  own_entry : {p : Package} {name entry other : Text} → IsFound w p → HasEntry p name entry → IsEntry entry (OwnFeature other) → HasFeature p other → IsRule w choice table (implies (named_of p.id name) (named_of p.id other))
  dependency_entry : {p : Package} {name entry dependency : Text} → IsFound w p → HasEntry p name entry → IsEntry entry (Dependency dependency) → Contains p.optional dependency → IsRule w choice table (implies (named_of p.id name) (dep_of p.id dependency))
  -- a strong entry leads to a feature of a dependency, to the dependency where it is optional, and then to the feature of its name
  strong_feature : {p : Package} {name entry dependency feature : Text} {link : Link} {line : Line} → IsFound w p → HasEntry p name entry → IsEntry entry (Strong dependency feature) → LeadsTo w table p dependency feature link line → IsRule w choice table (implies (named_of p.id name) (named_of link.to feature))
  strong_dependency : {p : Package} {name entry dependency feature : Text} → IsFound w p → HasEntry p name entry → IsEntry entry (Strong dependency feature) → Contains p.optional dependency → IsRule w choice table (implies (named_of p.id name) (dep_of p.id dependency))
  strong_name : {p : Package} {name entry dependency feature : Text} → IsFound w p → HasEntry p name entry → IsEntry entry (Strong dependency feature) → Contains p.optional dependency → HasFeature p dependency → IsRule w choice table (implies (named_of p.id name) (named_of p.id dependency))
  -- a weak entry leads to a feature of a dependency, and where the line is optional only together with the dependency
  weak_required : {p : Package} {name entry dependency feature : Text} {link : Link} {line : Line} → IsFound w p → HasEntry p name entry → IsEntry entry (Weak dependency feature) → LeadsTo w table p dependency feature link line → line.optional ≡ false → IsRule w choice table (implies (named_of p.id name) (named_of link.to feature))
  weak_optional : {p : Package} {name entry dependency feature : Text} {link : Link} {line : Line} → IsFound w p → HasEntry p name entry → IsEntry entry (Weak dependency feature) → LeadsTo w table p dependency feature link line → line.optional ≡ true → IsRule w choice table (both_imply (named_of p.id name) (dep_of p.id dependency) (named_of link.to feature))
  -- a line leads from its start to its target, to the target's default feature where it asks for it, and to the features that it lists
  line_base : {link : Link} {line : Line} → Contains w.links link → Counts w table link line → IsRule w choice table (implies (line_start link line) (base_of link.to))
  line_default : {link : Link} {line : Line} → Contains w.links link → Counts w table link line → line.default_features ≡ true → TargetHas w link default_name → IsRule w choice table (implies (line_start link line) (named_of link.to default_name))
  line_feature : {link : Link} {line : Line} {name : Text} → Contains w.links link → Counts w table link line → Contains line.features name → TargetHas w link name → IsRule w choice table (implies (line_start link line) (named_of link.to name))
