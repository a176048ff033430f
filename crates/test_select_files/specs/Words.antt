-- The words of a command line, and those that name the files of a question.
use Rattle.std.specs.Prelude.{ℕ, Bool, false, List, [], Option, codes, option_map, unwrap_or}
use Rattle.std.specs.Borrow.{Bor}
use Rattle.std.specs.Option.{option_map_or}
use Rattle.std.specs.Str.{bytes_eq}
use Rattle.clap.specs.Words.{Row, all_of, first_of}
use Rattle.workspace_record.specs.Records.{Text}
use Rattle.test_select_files.specs.declared.options.QuestionFiles.{QuestionFiles}

-- the names of the files of a question
pub record FileNames : Type 0 where
  pub workspace : Text
  pub choice : Option Text
  pub table : Option Text

-- the name of a file that may be named
abbrev pub name_in : Option (Bor (List ℕ)) → Option Text
name_in name = option_map (λ n. n.now) name

-- the names as the program holds them
abbrev pub names_of : QuestionFiles → FileNames
names_of names = record { workspace = names.record.now; choice = name_in names.choice; table = name_in names.table }

-- the value of a word, or the empty text
abbrev pub word_or_empty : Text → List Row → Text
word_or_empty name words = unwrap_or (first_of name words) []

-- the first value of the word is this text
abbrev pub says : Text → Text → List Row → Bool
says text name words = option_map_or (λ value. bytes_eq value text) (first_of name words) false

-- the flag with this name is given
abbrev pub is_given : Text → List Row → Bool
is_given = says (codes "true")

-- all values of the word, in the order of the command line
abbrev pub values_of : Text → List Row → List Text
values_of name words = unwrap_or (all_of name words) []

-- the files that the words name
abbrev pub files_named : List Row → FileNames
files_named words = record {
  workspace = word_or_empty (codes "record") words;
  choice = first_of (codes "choice") words;
  table = first_of (codes "table") words;
}
