-- What a selection is asked, and what is on there.
use Rattle.std.specs.Prelude.{List, Contains}
use Rattle.workspace_record.specs.Records.{FeatureEntry, Group, Package, Target, Text, Workspace}
use Rattle.workspace_record.specs.Features.{FeatureValue}
use Rattle.workspace_record.specs.Choices.{Choice}
use Rattle.workspace_record.specs.declared.choice.PlatformTable.{PlatformTable}
use Rattle.feature_account_rules.specs.Closed.{IsOn}
use Rattle.feature_account_rules.specs.RuleList.{named_of, rule_list}
use Rattle.nextest_filtering.specs.SameFilters.{AreBytes}
use Rattle.test_select_tests.specs.declared.asked_binaries.AskedBinaries.{AskedBinaries}
use Rattle.test_select_tests.specs.declared.asked_binaries.AskedBinaries.TheVariants.{LetThrough, Available}
use Rattle.test_select_tests.specs.declared.scope.LinkScope.{LinkScope}

-- the tests of which workspace, under which choice, on which platform, over which links, by which texts, and which available binaries are asked
pub record Question : Type 0 where
  pub workspace : Workspace
  pub choice : Choice
  pub table : PlatformTable
  pub scope : LinkScope
  pub texts : List Text
  pub asks : AskedBinaries

-- a binary is wanted, where this says that it is let through
abbrev pub WantedIn : AskedBinaries → Type 0 → Type 0
WantedIn LetThrough through = through
WantedIn Available through = Unit {0}

-- the names of the package, its features and its targets are made of bytes
pub record IsBytePackage (p : Package) : Type 0 where
  pub name : AreBytes p.name
  pub features : (f : FeatureEntry) → Contains p.features f → AreBytes f.name
  pub targets : (t : Target) → Contains p.targets t → AreBytes t.name

-- the names of packages, features, targets and groups are
pub record HasByteTexts (w : Workspace) : Type 0 where
  pub packages : (p : Package) → Contains w.packages p → IsBytePackage p
  pub groups : (g : Group) → Contains w.groups g → AreBytes g.name

module _ (q : Question) where
  -- the feature is on
  abbrev pub IsFeatureOn : FeatureValue → Type 0
  IsFeatureOn f = IsOn (rule_list q.workspace q.choice q.table) f

  -- the names of the record, and of the features that are on, are made of bytes, as each text of a program is
  pub record IsSpelled : Type 0 where
    pub texts : HasByteTexts q.workspace
    pub on : (id name : Text) → IsFeatureOn (named_of id name) → AreBytes name
