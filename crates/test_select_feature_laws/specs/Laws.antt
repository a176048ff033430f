-- What the rules of records give the feature graphs that are built of them.
use Rattle.std.specs.Prelude.{List, ◌≡◌, ◌↔◌, Bool, true, [], Contains, IsTrue, None}
use Rattle.numbered_graph.specs.declared.direction.Direction.TheVariants.{Forward}
use Rattle.numbered_offers.specs.declared.offer.Offer.{Offer}
use Rattle.numbered_offers.specs.Least.{IsClosed as AreEdgesClosed}
use Rattle.workspace_record.specs.Records.{FeatureEntry, Line, Link, Package, Workspace}
use Rattle.workspace_record.specs.Choices.{Choice}
use Rattle.workspace_record.specs.Features.{FeatureValue}
use Rattle.workspace_record.specs.declared.choice.PlatformTable.{PlatformTable}
use Rattle.feature_account_rules.specs.Closed.{FeatureSet, IsOn}
use Rattle.feature_account_rules.specs.IsRule.{IsMember}
use Rattle.feature_account_rules.specs.RuleList.{base_of, rule_list}
use Rattle.test_select_rules.specs.OnLines.{LineIsOn}
use Rattle.guppy_feature_nodes.specs.Graphs.{FeatureGraphValue, IsFeatureGraph, feature_at}
use Rattle.guppy_feature_nodes.specs.Offering.{offers_of}
use Rattle.guppy_feature_graph.specs.Links.{link_of}
use Rattle.test_select_feature_laws.specs.RecordGraphs.{IsGraphOf}
use Rattle.test_select_feature_laws.specs.Rules.{HasChosen}
use Rattle.test_select_rules.specs.RecordRules.{fault_of}
use Rattle.test_select_feature_laws.specs.Verdicts.{HasCountingLine}

-- the graph is built of the rows of the record (from Cargo's reference, "Features")
pub record IsBuiltOf (w : Workspace) (g : FeatureGraphValue) : Type 0 where
  pub packages : g.rows.packages ≡ w.packages
  pub links : g.rows.links ≡ w.links
  pub workspace : g.rows.workspace ≡ w.workspace
  pub built : IsFeatureGraph g

-- a graph that is built of a record which keeps the rules is the graph of that record
abbrev pub KeptRecordsHaveGraphs : Type 0
KeptRecordsHaveGraphs = (w : Workspace) (g : FeatureGraphValue) → fault_of w ≡ None → IsBuiltOf w g → IsGraphOf w g

-- what is on under a choice, in a record that keeps the rules, is what lies in each set that has what the choice switches on by
-- itself and is closed under the edges that lead always and the offers behind which a line counts
-- (from Cargo's reference, "Features")
abbrev pub KeptEdgesLeadToWhatIsOn : Type 0
KeptEdgesLeadToWhatIsOn =
    (w : Workspace) (choice : Choice) (table : PlatformTable) (g : FeatureGraphValue) (accepts : Offer → Bool) (f : FeatureValue)
    → fault_of w ≡ None
    → IsBuiltOf w g
    → ((o : Offer) → IsTrue (accepts o) ↔ HasCountingLine table (link_of g o))
    → IsOn (rule_list w choice table) f ↔ ((s : FeatureSet) → HasChosen w choice s → AreEdgesClosed Forward (offers_of Forward g) [] accepts (λ v. s (feature_at g v) ≡ true) → s f ≡ true)

-- in a record that keeps the rules each workspace package is on (from Cargo's reference, "Features")
abbrev pub WorkspacePackagesAreOn : Type 0
WorkspacePackagesAreOn =
    (w : Workspace) (choice : Choice) (table : PlatformTable) (p : Package)
    → fault_of w ≡ None
    → Contains w.packages p
    → IsMember w p.id
    → IsOn (rule_list w choice table) (base_of p.id)

-- in a record that keeps the rules each line that is on leads from a package that is on to one that is on
-- (from Cargo's reference, "Features")
abbrev pub LinesOnJoinPackagesOn : Type 0
LinesOnJoinPackagesOn =
    (w : Workspace) (choice : Choice) (table : PlatformTable) (link : Link) (line : Line)
    → fault_of w ≡ None
    → Contains w.links link
    → LineIsOn w table (IsOn (rule_list w choice table)) link line
    → IsOn (rule_list w choice table) (base_of link.from) × IsOn (rule_list w choice table) (base_of link.to)

-- the lists have the same elements, in whichever order
abbrev pub HaveTheSame : {X : Type 0} → List X → List X → Type 0
HaveTheSame xs ys = (x : _) → Contains xs x ↔ Contains ys x

-- each element of the one list has its like in the other, in whichever order
abbrev pub HaveAlike : {X : Type 0} → (X → X → Type 0) → List X → List X → Type 0
HaveAlike Like xs ys = ((x : _) → Contains xs x → (y : _) × Contains ys y × Like x y) × ((y : _) → Contains ys y → (x : _) × Contains xs x × Like x y)

-- features of one name with the same entries, in whichever order
pub record IsFeatureReordered (f g : FeatureEntry) : Type 0 where
  pub name : f.name ≡ g.name
  pub enables : HaveTheSame f.enables g.enables

-- packages of one id with the same features and optional dependencies, in whichever order
pub record IsPackageReordered (p q : Package) : Type 0 where
  pub id : p.id ≡ q.id
  pub features : HaveAlike IsFeatureReordered p.features q.features
  pub optional : HaveTheSame p.optional q.optional

-- lines that ask for the same, in whichever order
pub record IsLineReordered (l m : Line) : Type 0 where
  pub kind : l.kind ≡ m.kind
  pub optional : l.optional ≡ m.optional
  pub default_features : l.default_features ≡ m.default_features
  pub features : HaveTheSame l.features m.features
  pub spec : l.spec ≡ m.spec

-- links between the same packages, under one name, with the same lines, in whichever order
pub record IsLinkReordered (l m : Link) : Type 0 where
  pub from : l.from ≡ m.from
  pub to : l.to ≡ m.to
  pub name : l.name ≡ m.name
  pub lines : HaveAlike IsLineReordered l.lines m.lines

-- the records have the same packages, links and members, in whichever order, also of what stands in them
pub record IsReordered (w v : Workspace) : Type 0 where
  pub packages : HaveAlike IsPackageReordered w.packages v.packages
  pub links : HaveAlike IsLinkReordered w.links v.links
  pub members : HaveTheSame w.workspace.members v.workspace.members

-- in records that keep the rules, another order of packages, features, entries, optional dependencies, links, lines and members
-- changes nothing that is on
abbrev pub OrderIsFree : Type 0
OrderIsFree =
    (w v : Workspace) (choice : Choice) (table : PlatformTable) (f : FeatureValue)
    → fault_of w ≡ None
    → fault_of v ≡ None
    → IsReordered w v
    → IsOn (rule_list w choice table) f ↔ IsOn (rule_list v choice table) f
