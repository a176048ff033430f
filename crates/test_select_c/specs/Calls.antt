-- What a call prints.
use Rattle.std.specs.Prelude.{◌≡◌, ◌⊎◌, ◌++◌, List, [], Some, codes, length, map, ℕ}
use Rattle.workspace_record.specs.Records.{Text}
use Rattle.test_select_files.specs.Listed.{AnswersListed}
use Rattle.test_select_files.specs.declared.listed_files.ListedFile.{ListedFile}
use Rattle.test_select.specs.Running.{EndsProgram}
use Rattle.test_select_c.specs.Pieces.{AreFiles, AreWords}
use Rattle.test_select_c.specs.PieceViews.{file_view}
use Rattle.test_select_c.specs.Rooms.{fitted}
use Rattle.test_select_c.specs.declared.Outcome.{Outcome}

-- the program ran on these words and files, from empty streams, and printed these texts
pub record Runs (words files : List ℕ) (out err : Text) (status : ℕ) : Type 0 where
  pub texts : List Text
  pub are_words : AreWords words texts
  pub listed : List ListedFile
  pub are_files : AreFiles files (map file_view listed)
  pub ended : EndsProgram texts (AnswersListed listed) [] [] (Some []) (Some out) (Some []) (Some err) status

-- there was no memory to take the words and files apart, which a beginning of its line says
pub record LacksMemory (out err : Text) (status : ℕ) : Type 0 where
  pub failed : status ≡ 1
  pub nothing : out ≡ []
  pub rest : Text
  pub begun : codes "out of memory\n" ≡ err ++ rest

-- what is printed of words and files
abbrev pub Prints : List ℕ → List ℕ → Text → Text → ℕ → Type 0
Prints words files out err status = Runs words files out err status ⊎ LacksMemory out err status

-- of bytes that are no words and files nothing is printed, and the status is 4; or memory ran out before that was known
abbrev pub PrintsNothing : Text → Text → ℕ → Type 0
PrintsNothing out err status = ((status ≡ 4) × (out ≡ []) × (err ≡ [])) ⊎ LacksMemory out err status

-- what is printed, of which this holds, was written into the rooms of a call, as much as fits, and it is said how much there is
pub record IsShown (Printed : Text → Text → ℕ → Type 0) (outcome : Outcome) (out_old out_new err_old err_new : List ℕ) : Type 0 where
  pub out : Text
  pub err : Text
  pub status : ℕ
  pub printed : Printed out err status
  pub out_length : outcome.out_length ≡ length out
  pub err_length : outcome.err_length ≡ length err
  pub out_held : out_new ≡ fitted out out_old
  pub err_held : err_new ≡ fitted err err_old
  pub is_status : (outcome.status ≡ status) ⊎ (outcome.status ≡ 3)

-- what a call on words and files has printed into its rooms
abbrev pub Answers : List ℕ → List ℕ → Outcome → List ℕ → List ℕ → List ℕ → List ℕ → Type 0
Answers words files = IsShown (Prints words files)

-- what a call on other bytes has
abbrev pub Refuses : Outcome → List ℕ → List ℕ → List ℕ → List ℕ → Type 0
Refuses = IsShown PrintsNothing
