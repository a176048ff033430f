-- Tables of answers about one platform.
use Rattle.std.specs.Prelude.{◌≡◌, Bool, List, Option, map}
use Rattle.std.proofs.Common.{String, Global, string_bytes}
use Rattle.indexmap.specs.IndexMap.{get_by_text}
use Rattle.workspace_record.specs.Records.{Text}
use Rattle.workspace_record.specs.declared.choice.PlatformTable.{PlatformTable}

-- the answer that a table has for a spec
abbrev pub answer : PlatformTable → Text → Option Bool
answer table spec = get_by_text table.answers spec

-- a spec of a table, and its answer
abbrev pub entry_of : String Global × Bool → Text × Bool
entry_of e = (string_bytes e.0, e.1)

-- the specs that a table answers, each with its answer, in the table's order
abbrev pub answered : PlatformTable → List (Text × Bool)
answered table = map entry_of table.answers.entries

-- the tables have the same answers in the same order
pub record SameTable (new old : PlatformTable) : Type 0 where
  pub answered : answered new ≡ answered old
  pub answers : (spec : Text) → answer new spec ≡ answer old spec
  pub unknown_counts : new.unknown_counts ≡ old.unknown_counts
