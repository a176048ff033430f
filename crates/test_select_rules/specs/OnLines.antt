-- Which lines are on, and which binaries are available.
use Rattle.std.specs.Prelude.{◌≡◌, true, Contains}
use Rattle.workspace_record.specs.Records.{Text, Line, Link, Target, Workspace}
use Rattle.workspace_record.specs.Features.{FeatureValue}
use Rattle.workspace_record.specs.declared.choice.PlatformTable.{PlatformTable}
use Rattle.feature_account_rules.specs.Lines.{counts}
use Rattle.feature_account_rules.specs.RuleList.{line_start, named_of}
use Rattle.test_select_rules.specs.Binaries.{Binary}

-- a line is on where it counts and its start is: its source, or the optional dependency (from Cargo's reference, "Cargo Targets")
pub record LineIsOn (w : Workspace) (table : PlatformTable) (on : FeatureValue → Type 0) (link : Link) (line : Line) : Type 0 where
  pub declared : Contains link.lines line
  pub counts : counts w table link.from line ≡ true
  pub start : on (line_start link line)

-- the features that the target requires of its package are on
abbrev pub HasRequired : (FeatureValue → Type 0) → Text → Target → Type 0
HasRequired on package_id target = (name : Text) → Contains target.required_features name → on (named_of package_id name)

-- a binary is available where its required features are on (from Cargo's reference, "Cargo Targets")
abbrev pub IsAvailable : (FeatureValue → Type 0) → Binary → Type 0
IsAvailable on b = HasRequired on b.owner.id b.target
