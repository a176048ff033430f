-- Which links between features have a line behind them that counts.
use Rattle.std.specs.Prelude.{◌≡◌, Bool, true, ◌&&◌, ◌||◌, Contains, is_some}
use Rattle.std.specs.List.{list_any}
use Rattle.workspace_record.specs.Records.{Line}
use Rattle.workspace_record.specs.declared.choice.PlatformTable.{PlatformTable}
use Rattle.workspace_record.specs.declared.kinds.LineKind.{LineKind}
use Rattle.workspace_record.specs.declared.kinds.LineKind.TheVariants.{Normal, Build, Dev}
use Rattle.feature_account_rules.specs.Lines.{counts_for, is_in_force}
use Rattle.guppy_package_parts.specs.Statuses.{specs_of}
use Rattle.guppy_package_table.specs.Tables.{member_of}
use Rattle.guppy_feature_nodes.specs.Graphs.{feature_at}
use Rattle.guppy_feature_views.specs.Links.{LinkValue, edge_of, lines_behind}
use Rattle.test_select_feature_laws.specs.declared.line_verdict.LineVerdict.{LineVerdict}

-- what contracts see of a verdict: its table
abbrev pub table_of : LineVerdict → PlatformTable
table_of v = v.table.now

-- the feature from which the link leads on is of a member of the workspace (from Cargo's reference, "Specifying Dependencies")
abbrev pub starts_in_workspace : LinkValue → Bool
starts_in_workspace l = is_some (member_of l.graph.rows (feature_at l.graph (edge_of l).from).package_id)

-- a line of a kind behind the link is in force (from Cargo's reference, "Specifying Dependencies")
abbrev pub in_force_of : PlatformTable → LinkValue → LineKind → Bool
in_force_of table l kind = list_any (is_in_force table) (specs_of (lines_behind l kind))

-- a normal or a build line is, or a dev line of a member of the workspace (from Cargo's reference, "Specifying Dependencies")
abbrev pub some_counts : PlatformTable → LinkValue → Bool
some_counts table l = (in_force_of table l Normal || in_force_of table l Build) || (starts_in_workspace l && in_force_of table l Dev)

-- a line behind the link counts: by its kind, and it is in force (from Cargo's reference, "Specifying Dependencies")
pub record HasCountingLine (table : PlatformTable) (l : LinkValue) : Type 0 where
  pub kind : LineKind
  pub line : Line
  pub behind : Contains (lines_behind l kind) line
  pub counts_by_kind : counts_for (starts_in_workspace l) kind ≡ true
  pub in_force : is_in_force table line.spec ≡ true
