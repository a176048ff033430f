-- What is made by the words of a command line.
use Rattle.std.specs.Prelude.{List, Result, Ok, Err, codes}
use Rattle.clap.specs.Words.{Row}
use Rattle.workspace_record.specs.Records.{Text}
use Rattle.record_writing.specs.Files.{ReadAsListings}
use Rattle.cargo_files.specs.Choices.{IsChoiceFile}
use Rattle.cargo_files.specs.Listed.{AreIdsIn}
use Rattle.cargo_files.specs.Made.{IsRecordFile, IsTableFile}
use Rattle.cargo_files.specs.Printed.{AreSettings}
use Rattle.cargo_files.specs.Refused.{RefusesChoice, RefusesFile, RefusesMetadata, RefusesPlatform, RefusesTable}
use Rattle.cargo_files.specs.Settings.{Setting}
use Rattle.cargo_files.specs.declared.choosing.FeatureWords.{FeatureWords}
use Rattle.cargo_record.specs.declared.members.RequestedMembers.{RequestedMembers}
use Rattle.test_select_files.specs.Words.{is_given, word_or_empty}
use Rattle.cargo_workspace.specs.Asking.{AsksAbout, AsksForFeatures}
use Rattle.cargo_workspace.specs.Files.{Asked}
use Rattle.cargo_workspace.specs.Lists.{Listed, ReadsLists}
use Rattle.cargo_workspace.specs.Reading.{InTurn, MakesOf}
use Rattle.cargo_workspace.specs.declared.failure.Failure.{Failure}

-- the record of the members that are asked about, of what `cargo metadata` printed
abbrev pub MakesRecord : List Row → Result Text Failure → Asked → Type 0
MakesRecord words result asked =
    (wanted : RequestedMembers) × AsksAbout words wanted
    × MakesOf (λ printed text. IsRecordFile printed wanted text) (λ printed why. RefusesMetadata printed wanted why) (word_or_empty (codes "metadata") words) result asked

-- the settings of a platform, of what `rustc --print cfg` printed
abbrev pub ReadsSettings : List Row → Result (List Setting) Failure → Asked → Type 0
ReadsSettings words =
    MakesOf (λ printed settings. AreSettings printed 0 settings) RefusesPlatform (word_or_empty (codes "cfg") words)

-- the table of the record for a target with this triple and these settings
abbrev pub MakesTableFor : List Row → Text → List Setting → Result Text Failure → Asked → Type 0
MakesTableFor words triple settings =
    MakesOf (λ file text. IsTableFile file triple settings text) RefusesTable (word_or_empty (codes "record") words)

-- the table of the record: the settings are read first
abbrev pub MakesTable : List Row → Result Text Failure → Asked → Type 0
MakesTable words = InTurn (ReadsSettings words) (MakesTableFor words (word_or_empty (codes "triple") words))

-- the choice that the words on features mean for the record
abbrev pub MakesChoice : List Row → Result Text Failure → Asked → Type 0
MakesChoice words result asked =
    (features : FeatureWords) × AsksForFeatures words features
    × MakesOf (λ file text. IsChoiceFile file features text) (λ file why. RefusesChoice file features why) (word_or_empty (codes "record") words) result asked

-- the ids of the record's test binaries
abbrev pub ReadsIds : List Row → Result (List Text) Failure → Asked → Type 0
ReadsIds words = MakesOf AreIdsIn RefusesFile (word_or_empty (codes "record") words)

-- the listings of binaries with these ids: of what nextest printed, or of a folder
abbrev pub ReadsListsBy : List Row → List Text → Result Listed Failure → Asked → Type 0
ReadsListsBy words =
    ReadsLists (is_given (codes "nextest") words) (word_or_empty (codes "lists") words) (is_given (codes "built") words)

-- the listings of the record's test binaries: the record is read first
abbrev pub ReadsListings : List Row → Result Listed Failure → Asked → Type 0
ReadsListings words = InTurn (ReadsIds words) (ReadsListsBy words)

-- their file
abbrev pub MakesListings : List Row → Result Text Failure → Asked → Type 0
MakesListings words (Ok text) asked = (listings : Listed) × ReadsListings words (Ok listings) asked × ReadAsListings listings text
MakesListings words (Err failure) asked = ReadsListings words (Err failure) asked
