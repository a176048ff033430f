-- What a list of files answers.
use Rattle.std.specs.Prelude.{◌≡◌, ℕ, List, Option, Some, None, Ok, Err, find, option_map}
use Rattle.std.specs.Str.{bytes_eq}
use Rattle.workspace_record.specs.Records.{Text}
use Rattle.test_select_files.specs.Files.{Answer}
use Rattle.test_select_files.specs.declared.file_source.FileFault.TheVariants.{CannotRead, Memory}
use Rattle.test_select_files.specs.declared.listed_files.ListedFile.{ListedFile}

-- the bytes under a name: those of the first file that has it
abbrev pub bytes_under : List ListedFile → Text → Option (List ℕ)
bytes_under files name =
    option_map (λ file. file.bytes.now) (find (λ file. bytes_eq file.name.now name) files)

-- the bytes under the name, or that there are none; memory may run out at any name
abbrev pub AnswersListed : List ListedFile → List ℕ → Text → Answer → List ℕ → Type 0
AnswersListed files s name (Ok bytes) t = (bytes_under files name ≡ Some bytes) × (t ≡ s)
AnswersListed files s name (Err CannotRead) t = (bytes_under files name ≡ None) × (t ≡ s)
AnswersListed files s name (Err Memory) t = t ≡ s
