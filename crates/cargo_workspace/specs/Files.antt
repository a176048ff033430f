-- What the files of a source answer.
use Rattle.std.specs.Prelude.{ℕ, List, Option, Result, Ok, Err, Vec, option_map}
use Rattle.std.specs.Global.{Global}
use Rattle.workspace_record.specs.Records.{Text}
use Rattle.test_select_files.specs.Files.{Answered}
use Rattle.test_select_files.specs.declared.file_source.FileFault.{FileFault}

-- the bytes of a file, that there is none, or why it was not read
abbrev pub Answer : Type 0
Answer = Result (Option (List ℕ)) FileFault

-- the bytes that were answered, as a list
abbrev pub answer_of : Result (Option (Vec ℕ Global)) FileFault → Answer
answer_of (Ok file) = Ok (option_map (λ bytes. bytes.items) file)
answer_of (Err fault) = Err fault

-- the files that were asked for, in order: their names, and what they answered
abbrev pub Asked : Type 0
Asked = List (Text × Answer)

-- some files were asked for, between the one state of the source and the other, and of their answers this holds
pub record Asks (R : List ℕ → Text → Answer → List ℕ → Type 0) (s t : List ℕ) (Holds : Asked → Type 0) : Type 0 where
  pub asked : Asked
  pub answered : Answered R s asked t
  pub holds : Holds asked
