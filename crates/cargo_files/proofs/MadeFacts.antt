-- What a table that was written answers.
use Rattle.std.proofs.Common.{◌≡◌, ◌∙◌, ℕ, List, false, Ok, subst, sym}
use Rattle.workspace_record.specs.Records.{Text, Workspace}
use Rattle.workspace_record.specs.Tables.{answer}
use Rattle.workspace_record.specs.declared.choice.PlatformTable.{PlatformTable}
use Rattle.record_files.specs.Files.{Reads}
use Rattle.record_files.specs.Records.{record_file}
use Rattle.record_writing.specs.Files.{ReadsAsTable}
use Rattle.cargo_files.specs.Settings.{Setting}
use Rattle.cargo_files.specs.TableAnswers.{IsAnswer, specs_of}
use Rattle.cargo_files.specs.Made.{IsTableFile}

-- the file of a table for a record in a file
pub made_table : (file : List ℕ) (triple : Text) (settings : List Setting) (text : Text) (w : Workspace) (t : PlatformTable)
    → Reads record_file file (Ok w)
    → ((spec : Text) → IsAnswer triple settings (specs_of w.links) spec (answer t spec))
    → t.unknown_counts ≡ false
    → ReadsAsTable t text
    → IsTableFile file triple settings text
made_table file triple settings text w t tells answers known written = record {
  asked = w;
  tells = tells;
  table = written.table;
  reads = written.reads;
  answers = λ spec. subst (IsAnswer triple settings (specs_of w.links) spec) (sym (written.answers spec)) (answers spec);
  known = written.unknown_counts ∙ known;
}
