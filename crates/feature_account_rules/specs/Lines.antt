-- Which lines count.
pub use Rattle.workspace_record.specs.Packages.{package_of, first_of_each, is_member, is_workspace_package}
use Rattle.std.specs.Prelude.{Bool, true, ◌&&◌, List, Option, Some, None, filter, unwrap_or}
use Rattle.workspace_record.specs.Records.{Text, Line, Link, Workspace}
use Rattle.workspace_record.specs.Tables.{answer}
use Rattle.workspace_record.specs.declared.choice.PlatformTable.{PlatformTable}
use Rattle.workspace_record.specs.declared.kinds.LineKind.{LineKind}
use Rattle.workspace_record.specs.declared.kinds.LineKind.TheVariants.{Normal, Build, Dev}

-- a line for the platforms of a spec is in force: there is no spec, the answer is yes, or there is none and unknown answers count
abbrev pub is_in_force : PlatformTable → Option Text → Bool
is_in_force table None = true
is_in_force table (Some spec) = unwrap_or (answer table spec) table.unknown_counts

-- a line of this kind counts, for a source that is a workspace package or not
abbrev pub counts_for : Bool → LineKind → Bool
counts_for in_workspace Normal = true
counts_for in_workspace Build = true
counts_for in_workspace Dev = in_workspace

-- a line of a link from this package counts (from Cargo's reference, "Specifying dependencies")
abbrev pub counts : Workspace → PlatformTable → Text → Line → Bool
counts w table source line = counts_for (is_workspace_package w source) line.kind && is_in_force table line.spec

-- the lines of a link that count, in their order
abbrev pub counting_lines : Workspace → PlatformTable → Link → List Line
counting_lines w table link = filter (counts w table link.from) link.lines
