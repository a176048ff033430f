-- Records that differ in the order of what they list alone.
use Rattle.std.specs.Prelude.{◌≡◌, ◌↔◌}
use Rattle.workspace_record.specs.Records.{Package, Text, Workspace}
use Rattle.nextest_filter_tokens.specs.declared.filterset_kind.FiltersetKind.{FiltersetKind}
use Rattle.test_select_checks.specs.FilterTexts.{IsAcceptedText}
use Rattle.test_select_feature_laws.specs.Laws.{HaveAlike, HaveTheSame, IsLinkReordered}
use Rattle.test_select_feature_laws.specs.Laws as features
use Rattle.test_select_tests.specs.Questions.{Question}
use Rattle.test_select_tests.specs.Readings.{AreReadings, Readings}
use Rattle.test_select_laws.specs.Laws.{Agree}

-- packages of one id and name with the same targets, features and optional dependencies, in whichever order
pub record IsPackageReordered (p q : Package) : Type 0 where
  pub itself : features.IsPackageReordered p q
  pub name : p.name ≡ q.name
  pub targets : HaveTheSame p.targets q.targets

-- the records have the same packages, links and members, in whichever order, also of what stands in them, the same groups and the same default filter
pub record IsReordered (w v : Workspace) : Type 0 where
  pub packages : HaveAlike IsPackageReordered w.packages v.packages
  pub links : HaveAlike IsLinkReordered w.links v.links
  pub members : HaveTheSame w.workspace.members v.workspace.members
  pub groups : w.groups ≡ v.groups
  pub default_filter : w.default_filter ≡ v.default_filter

-- two questions, each as it is read, accept the same texts, have one report over the same listings, and ask for the same binaries
pub record AnswerAlike (q p : Question) (r s : Readings) : Type 0 where
  pub accepted : (kind : FiltersetKind) (text : Text) → IsAcceptedText r.context r.groups kind text ↔ IsAcceptedText s.context s.groups kind text
  pub agree : Agree q p r s

-- another order of packages, targets, features, entries, optional dependencies, links, lines and members changes neither what is accepted nor what is chosen and asked
abbrev pub SelectionOrderIsFree : Type 0
SelectionOrderIsFree =
    (q : Question) (v : Workspace) (r s : Readings)
    → IsReordered q.workspace v
    → AreReadings q r
    → AreReadings (record q { workspace = v }) s
    → AnswerAlike q (record q { workspace = v }) r s
