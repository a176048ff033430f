-- What the files are that are made of what Cargo and rustc print.
use Rattle.std.specs.Prelude.{◌≡◌, ◌≢◌, ℕ, List, [], None, All, AllPairs, false, true, Ok, map}
use Rattle.std.specs.List.{list_all}
use Rattle.workspace_record.specs.Records.{Text, Workspace}
use Rattle.record_files.specs.Files.{Reads}
use Rattle.record_files.specs.Records as read
use Rattle.record_files.specs.Tables.{Table, table_file}
use Rattle.record_writing.specs.Files.{found, without_metadata}
use Rattle.cargo_metadata.specs.Files as cargo
use Rattle.cargo_metadata.specs.Metadata.{Metadata, metadata_file}
use Rattle.cargo_record.specs.Kept.{kept_row, owns_targets}
use Rattle.cargo_record.specs.Lines.{AreApart, AreLinesOf, IsDeclaredLink, line_rows, unlinked}
use Rattle.cargo_record.specs.Members.{IsWorkspaceOf}
use Rattle.cargo_record.specs.declared.members.RequestedMembers.{RequestedMembers}
use Rattle.cargo_files.specs.Settings.{Setting}
use Rattle.cargo_files.specs.TableAnswers.{IsAnswer, specs_of}

-- the record has Cargo's packages, the members that are asked about, of which no target is left out, and a line for each dependency that was resolved, in links that keep what Cargo declares of their first ones, and are apart
pub record IsRecordOf (m : Metadata) (wanted : RequestedMembers) (w : Workspace) : Type 0 where
  pub packages : w.packages ≡ map kept_row m.packages
  pub workspace : IsWorkspaceOf m wanted w.workspace
  pub lines : AreLinesOf (unlinked w) m (line_rows w.links)
  pub links : All (IsDeclaredLink m.packages) w.links
  pub apart : AllPairs (λ p q. p.row.id ≢ q.row.id) m.packages → AreApart w.links
  pub own : list_all (owns_targets (unlinked w)) m.packages ≡ true
  pub groups : w.groups ≡ []
  pub default_filter : w.default_filter ≡ None

-- the text is the file of such a record of what was printed, without metadata
pub record IsRecordFile (printed : List ℕ) (wanted : RequestedMembers) (text : Text) : Type 0 where
  pub metadata : Metadata
  pub tells : cargo.Reads metadata_file printed (Ok metadata)
  pub made : Workspace
  pub is_record : IsRecordOf metadata wanted made
  pub reads : Reads read.record_file text (Ok (without_metadata made))

-- the text is the file of a table that answers each spec of the record in the file, and no other, for the platform
pub record IsTableFile (file : List ℕ) (triple : Text) (settings : List Setting) (text : Text) : Type 0 where
  pub asked : Workspace
  pub tells : Reads read.record_file file (Ok asked)
  pub table : Table
  pub reads : Reads table_file text (Ok table)
  pub answers : (spec : Text) → IsAnswer triple settings (specs_of asked.links) spec (found spec table.answers)
  pub known : table.unknown_counts ≡ false
