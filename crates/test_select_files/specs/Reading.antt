-- What was read, by the files that were asked for and what they answered.
use Rattle.std.specs.Prelude.{◌≡◌, ◌⊎◌, ◌++◌, ℕ, List, [], ◌∷◌, Option, Some, None, codes, Result, Ok, Err, Vec}
use Rattle.std.specs.Global.{Global}
use Rattle.std.specs.Str.{IsUtf8}
use Rattle.clap.specs.Words.{Row}
use Rattle.serde_json.specs.Data.{Data}
use Rattle.serde_json.specs.Read.{read}
use Rattle.workspace_record.specs.Choices.{Choice}
use Rattle.workspace_record.specs.Records.{Text, Workspace}
use Rattle.workspace_record.specs.declared.choice.PlatformTable.{PlatformTable}
use Rattle.record_files.specs.Accounts.{AccountValue, account_file}
use Rattle.record_files.specs.Choices.{choice_file}
use Rattle.record_files.specs.Faults.{Fault, fault_of}
use Rattle.record_files.specs.Files.{Reads}
use Rattle.record_files.specs.Records.{record_file}
use Rattle.record_files.specs.Tables.{table_file, table_view}
use Rattle.record_files.specs.declared.error.ReadError.{ReadError}
use Rattle.record_files.specs.declared.error.ReadError.TheVariants as error
use Rattle.test_select_files.specs.Defaults.{default_choice, KnowsNothing}
use Rattle.test_select_files.specs.Files.{Answer, Answered}
use Rattle.test_select_files.specs.Words.{FileNames, files_named, word_or_empty}
use Rattle.test_select_files.specs.declared.file_source.FileFault.TheVariants as fault
use Rattle.test_select_files.specs.declared.inputs.FeatureQuestion.{FeatureQuestion}
use Rattle.test_select_files.specs.declared.run_failure.RunFailure.{RunFailure}
use Rattle.test_select_files.specs.declared.run_failure.RunFailure.TheVariants.{CommandLine, CannotRead, BadFile, Denied, CannotWrite, Memory}

-- the files that were asked for, in order: their names, and what they answered
abbrev pub Asked : Type 0
Asked = List (Text × Answer)

-- some files were asked for, between the one state of the source and the other, and of their answers this holds
pub record Asks (R : List ℕ → Text → Answer → List ℕ → Type 0) (s t : List ℕ) (Holds : Asked → Type 0) : Type 0 where
  pub asked : Asked
  pub answered : Answered R s asked t
  pub holds : Holds asked

-- bytes that a format refuses, for another cause than memory
abbrev pub Refuses : {Y : Type 0} → (Data → Result Y Fault) → List ℕ → ReadError → Type 0
Refuses format bytes error.BadJson = IsUtf8 bytes → read bytes ≡ None
Refuses format bytes (error.BadShape field) = Reads format bytes (Err (fault_of field))
Refuses format bytes error.Memory = ⊥

-- one file was asked for, and the format says this of its bytes
pub record IsReadAs {Y : Type 0} (format : Data → Result Y Fault) (name : Text) (said : Result Y Fault) (asked : Asked) : Type 0 where
  pub bytes : List ℕ
  pub only : asked ≡ (name, Ok bytes) ∷ []
  pub reading : Reads format bytes said

-- one file was asked for, and its bytes are refused
pub record IsRefusedAs {Y : Type 0} (format : Data → Result Y Fault) (name : Text) (error : ReadError) (asked : Asked) : Type 0 where
  pub bytes : List ℕ
  pub only : asked ≡ (name, Ok bytes) ∷ []
  pub refused : Refuses format bytes error

-- the file with this name cannot be read, or is refused; of want of memory nothing is said
abbrev pub FileFails : {Y : Type 0} → (Data → Result Y Fault) → Text → RunFailure → Asked → Type 0
FileFails format name (CannotRead at) asked = (at.now ≡ name) × (asked ≡ (name, Err fault.CannotRead) ∷ [])
FileFails format name (BadFile at error) asked = (at.now ≡ name) × IsRefusedAs format name error asked
FileFails format name Memory asked = Unit {0}
FileFails format name (CommandLine error) asked = ⊥
FileFails format name Denied asked = ⊥
FileFails format name CannotWrite asked = ⊥

-- the bytes of the file with this name, or why there are none
abbrev pub ReadsBytes : Text → Result (List ℕ) RunFailure → Asked → Type 0
ReadsBytes name (Ok bytes) asked = asked ≡ (name, Ok bytes) ∷ []
ReadsBytes name (Err (CannotRead at)) asked = (at.now ≡ name) × (asked ≡ (name, Err fault.CannotRead) ∷ [])
ReadsBytes name (Err Memory) asked = Unit {0}
ReadsBytes name (Err (BadFile at error)) asked = ⊥
ReadsBytes name (Err (CommandLine error)) asked = ⊥
ReadsBytes name (Err Denied) asked = ⊥
ReadsBytes name (Err CannotWrite) asked = ⊥

-- the bytes as the program holds them
abbrev pub bytes_read : Result (Vec ℕ Global) RunFailure → Result (List ℕ) RunFailure
bytes_read (Ok bytes) = Ok bytes.items
bytes_read (Err failure) = Err failure

-- what is read of the file with this name, in the view of contracts, or why it fails
abbrev pub ReadsAs : {X Y : Type 0} → (X → Y) → (Data → Result Y Fault) → Text → Result X RunFailure → Asked → Type 0
ReadsAs shows format name (Ok value) asked = IsReadAs format name (Ok (shows value)) asked
ReadsAs shows format name (Err failure) asked = FileFails format name failure asked

-- the same of a file that may be named: where none is, none is asked for, and this counts
abbrev pub ReadsIfNamed : {X Y : Type 0} → (X → Y) → (Data → Result Y Fault) → (X → Type 0) → Option Text → Result X RunFailure → Asked → Type 0
ReadsIfNamed shows format absent (Some name) result asked = ReadsAs shows format name result asked
ReadsIfNamed shows format absent None (Ok value) asked = absent value × (asked ≡ [])
ReadsIfNamed shows format absent None (Err failure) asked = ⊥

-- the record in the file with this name
abbrev pub ReadsRecord : Text → Result Workspace RunFailure → Asked → Type 0
ReadsRecord = ReadsAs (λ (w : Workspace). w) record_file

-- the choice in the file that is named; where none is, the default features are on
abbrev pub ReadsChoice : Option Text → Result Choice RunFailure → Asked → Type 0
ReadsChoice = ReadsIfNamed (λ (c : Choice). c) choice_file (λ c. c ≡ default_choice)

-- the table in the file that is named; where none is, nothing is known
abbrev pub ReadsTable : Option Text → Result PlatformTable RunFailure → Asked → Type 0
ReadsTable = ReadsIfNamed table_view table_file KnowsNothing

-- the account or the explanation in the file with this name
abbrev pub ReadsAccount : Text → Result AccountValue RunFailure → Asked → Type 0
ReadsAccount = ReadsAs (λ (a : AccountValue). a) account_file

-- the question was read: the record first, then the choice, then the table, each of the file that is named
pub record IsQuestionRead (names : FileNames) (q : FeatureQuestion) (asked : Asked) : Type 0 where
  pub for_record : Asked
  pub for_choice : Asked
  pub for_table : Asked
  pub in_order : asked ≡ for_record ++ for_choice ++ for_table
  pub workspace : ReadsRecord names.workspace (Ok q.record.value) for_record
  pub choice : ReadsChoice names.choice (Ok q.choice) for_choice
  pub table : ReadsTable names.table (Ok q.table) for_table

-- the record was read, and then the choice failed
pub record ChoiceFails (names : FileNames) (failure : RunFailure) (asked : Asked) : Type 0 where
  pub for_record : Asked
  pub for_choice : Asked
  pub in_order : asked ≡ for_record ++ for_choice
  pub workspace : Workspace
  pub read : ReadsRecord names.workspace (Ok workspace) for_record
  pub fails : ReadsChoice names.choice (Err failure) for_choice

-- the record and the choice were read, and then the table failed
pub record TableFails (names : FileNames) (failure : RunFailure) (asked : Asked) : Type 0 where
  pub for_record : Asked
  pub for_choice : Asked
  pub for_table : Asked
  pub in_order : asked ≡ for_record ++ for_choice ++ for_table
  pub workspace : Workspace
  pub read : ReadsRecord names.workspace (Ok workspace) for_record
  pub choice : Choice
  pub chosen : ReadsChoice names.choice (Ok choice) for_choice
  pub fails : ReadsTable names.table (Err failure) for_table

-- the question that was read, or why the first file that failed did; none was asked for after it
abbrev pub ReadsQuestion : FileNames → Result FeatureQuestion RunFailure → Asked → Type 0
ReadsQuestion names (Ok q) asked = IsQuestionRead names q asked
ReadsQuestion names (Err failure) asked =
    ReadsRecord names.workspace (Err failure) asked ⊎ (ChoiceFails names failure asked ⊎ TableFails names failure asked)

-- ---- a question and one more file, which a word names

module _ {X Y : Type 0} (shows : X → Y) (format : Data → Result Y Fault) (word : Text) (words : List Row) where
  -- the question and then the file were read
  pub record AreBothRead (q : FeatureQuestion) (value : X) (asked : Asked) : Type 0 where
    pub for_question : Asked
    pub for_file : Asked
    pub in_order : asked ≡ for_question ++ for_file
    pub question_read : ReadsQuestion (files_named words) (Ok q) for_question
    pub file_read : ReadsAs shows format (word_or_empty word words) (Ok value) for_file

  -- the question was read, and then the file failed
  pub record FileFailsAfter (failure : RunFailure) (asked : Asked) : Type 0 where
    pub for_question : Asked
    pub for_file : Asked
    pub in_order : asked ≡ for_question ++ for_file
    pub question : FeatureQuestion
    pub question_read : ReadsQuestion (files_named words) (Ok question) for_question
    pub fails : ReadsAs shows format (word_or_empty word words) (Err failure) for_file

  -- what was read of both, or why the first file that failed did
  abbrev pub ReadsBoth : Result (FeatureQuestion × X) RunFailure → Asked → Type 0
  ReadsBoth (Ok both) asked = AreBothRead both.0 both.1 asked
  ReadsBoth (Err failure) asked = ReadsQuestion (files_named words) (Err failure) asked ⊎ FileFailsAfter failure asked

-- the question and the account that the words name
abbrev pub ReadsCheck : List Row → Result (FeatureQuestion × AccountValue) RunFailure → Asked → Type 0
ReadsCheck = ReadsBoth (λ (a : AccountValue). a) account_file (codes "account")

module _ {X : Type 0} (Reads : Result X RunFailure → Asked → Type 0) (asked : Asked) where
  -- something was read, and this came of it
  pub record EndsOn (Ends : X → Type 0) : Type 0 where
    pub value : X
    pub read : Reads (Ok value) asked
    pub ends : Ends value

  -- a file failed, and this came of it
  pub record EndsBy (Stops : RunFailure → Type 0) : Type 0 where
    pub failure : RunFailure
    pub fails : Reads (Err failure) asked
    pub stops : Stops failure

-- what comes of what is read, or of the failure of a file
abbrev pub EndsAfter : {X : Type 0} → (Result X RunFailure → Asked → Type 0) → (X → Type 0) → (RunFailure → Type 0) → Asked → Type 0
EndsAfter Reads Ends Stops asked = EndsOn Reads asked Ends ⊎ EndsBy Reads asked Stops
