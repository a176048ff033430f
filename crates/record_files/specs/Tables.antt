-- The file of a table: what is known of one platform.
use Rattle.std.specs.Prelude.{List, [], Bool, true, map, Result, Ok}
use Rattle.std.specs.List.Sorted.{IsStrictlySortedBy}
use Rattle.list_facts.specs.Ascending.{text_cmp}
use Rattle.serde_json.specs.Data.{Data, Members}
use Rattle.workspace_record.specs.Records.{Text}
use Rattle.workspace_record.specs.Tables.{answered}
use Rattle.workspace_record.specs.declared.choice.PlatformTable.{PlatformTable}
use Rattle.record_files.specs.Faults.{Fault}
use Rattle.record_files.specs.declared.key.Key.{Key}
use Rattle.record_files.specs.declared.key.Key.TheVariants as key
use Rattle.record_files.specs.Outcomes.{◌>>=◌}
use Rattle.record_files.specs.Values.{each_member, members_of, object_of, flag_of, flag_or, otherwise}

-- of a `PlatformTable`: each spec with its answer, in the table's order
pub record Table : Type 0 where
  pub answers : List (Text × Bool)
  pub unknown_counts : Bool

-- a table, by its texts
abbrev pub table_view : PlatformTable → Table
table_view table = record { answers = answered table; unknown_counts = table.unknown_counts }

-- the specs ascend by their bytes, and so each stands once
abbrev pub IsAscending : List (Text × Bool) → Type 0
IsAscending answers = IsStrictlySortedBy text_cmp (map (λ e. e.0) answers)

-- the answer to a spec; null is no answer, but a wrong value
abbrev pub answer_of : Text → Data → Result Bool Fault
answer_of spec d = flag_of key.Answers d

-- the answer under each spec, ascending by spec
abbrev pub each_answer : Members → Result (List (Text × Bool)) Fault
each_answer = each_member answer_of

-- the answers of a table
abbrev pub answers_of : Key → Data → Result (List (Text × Bool)) Fault
answers_of key d = members_of key d >>= each_answer

-- a table: the answers, none where they are absent, and then whether unknown ones count
unfoldable pub table_of : Data → Result Table Fault
table_of d = do
  answers ← otherwise [] answers_of key.Answers d
  unknown_counts ← flag_or true key.UnknownCounts d
  Ok (record { answers = answers; unknown_counts = unknown_counts })

-- a file that is a table
abbrev pub table_file : Data → Result Table Fault
table_file d = object_of key.File d >>= table_of
