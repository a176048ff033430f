-- What is kept beside a record, so that nothing is searched for.
use Rattle.std.specs.Prelude.{◌≡◌, List}
use Rattle.std.specs.Borrow.{Bor}
use Rattle.std.specs.List.{AllByRecursion}
use Rattle.indexmap.specs.IndexMap.{IndexMap, values}
use Rattle.indexmap.specs.IndexSet.{IndexSet}
use Rattle.workspace_record.specs.Records.{Text, Package, Workspace}
use Rattle.workspace_record.specs.LinkNames.{NamesLinks}
use Rattle.workspace_record.specs.Packages.{first_of_each, has_feature, has_optional, is_member}
use Rattle.workspace_record.specs.TextSets.{has_text}
use Rattle.workspace_record.specs.declared.link_names.LinkNames.{LinkNames}

-- the sets have the package's features and its optional dependencies
pub record FindsNames {S T : Type 0} (p : Package) (features : IndexSet (Bor Text) S) (optional : IndexSet (Bor Text) T) : Type 0 where
  pub named : (x : Text) → has_text features x ≡ has_feature p x
  pub dependencies : (x : Text) → has_text optional x ≡ has_optional p x

-- the map has the packages, of each id the first, in their order, each under its id
pub record FindsPackages {S : Type 0} (packages : List Package) (found : IndexMap (Bor Text) Package S) : Type 0 where
  pub rows : values found ≡ first_of_each packages
  pub ids : AllByRecursion (λ e. e.0.now ≡ e.1.id) found.entries

-- the packages by id, the members, and the links by their names
pub record Indexes {S T : Type 0} (w : Workspace) (packages : IndexMap (Bor Text) Package S) (members : IndexSet (Bor Text) T) (links : LinkNames) : Type 0 where
  pub packages_are : FindsPackages w.packages packages
  pub members_are : (x : Text) → has_text members x ≡ is_member w x
  pub links_are : NamesLinks w.links links
