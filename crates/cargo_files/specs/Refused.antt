-- Why files are refused. Of want of memory nothing is said.
use Rattle.std.specs.Prelude.{◌≡◌, ℕ, Bool, true, false, List, [], Contains, Option, Some, None, Ok, Err, bytes_eq, codes, get_or, string_bytes}
use Rattle.std.specs.List.{list_any}
use Rattle.std.specs.Str.{IsUtf8}
use Rattle.std.specs.Str.Lines.{lines}
use Rattle.serde_json.specs.Data.{Data}
use Rattle.serde_json.specs.Find.{get}
use Rattle.serde_json.specs.Read.{read}
use Rattle.workspace_record.specs.Records.{Link, Text, Workspace}
use Rattle.guppy_package_rules.specs.Places.{first_repeat}
use Rattle.record_files.specs.Files.{Reads, ReadsFile}
use Rattle.record_files.specs.Records.{record_file}
use Rattle.record_files.specs.declared.error.ReadError.{ReadError}
use Rattle.cargo_files.specs.Printed.{RefusesSettings}
use Rattle.cargo_files.specs.Specs.{IsSpec, Spec}
use Rattle.cargo_files.specs.declared.choosing.FeatureWords.{FeatureWords}
use Rattle.cargo_metadata.specs.Files as cargo
use Rattle.cargo_metadata.specs.Metadata.{Metadata, metadata_file}
use Rattle.cargo_record.specs.Refused.{RefusesRecord}
use Rattle.cargo_record.specs.declared.members.RequestedMembers.{RequestedMembers}
use Rattle.cargo_files.specs.Nextest.{suite_tests}
use Rattle.cargo_files.specs.Terse.{IsStray}
use Rattle.cargo_files.specs.Choices.{HasNoChoice}
use Rattle.cargo_files.specs.Listed.{IsNextestList}
use Rattle.cargo_files.specs.declared.refusal.Refusal.{Refusal}
use Rattle.cargo_files.specs.declared.refusal.Refusal.TheVariants as refusal
use Rattle.cargo_files.specs.declared.refusal.Refusal.TheVariants.{Choice, File, Memory, NoJson, NoList, NoSuites, Repeated, Settings, StrayLine, UnreadList}
use Rattle.cargo_files.specs.declared.refusal.SpecPlace.{SpecPlace}

-- what was printed are no metadata, and the error says why, or no record is made of them
abbrev pub RefusesMetadata : List ℕ → RequestedMembers → Refusal → Type 0
RefusesMetadata printed wanted (refusal.Metadata error) = cargo.ReadsFile {X = Metadata} (λ m. m) metadata_file printed (Err error)
RefusesMetadata printed wanted (refusal.Record fault) = (m : Metadata) × cargo.Reads metadata_file printed (Ok m) × RefusesRecord m wanted fault
RefusesMetadata printed wanted Memory = Unit {0}
RefusesMetadata printed wanted _ = ⊥

-- the file of a record is not read, and the error says why
abbrev pub IsUnread : List ℕ → ReadError → Type 0
IsUnread file error = ReadsFile {X = Workspace} (λ w. w) record_file file (Err error)

-- a record is refused only where its file is not read
abbrev pub RefusesFile : List ℕ → Refusal → Type 0
RefusesFile file (File error) = IsUnread file error
RefusesFile file Memory = Unit {0}
RefusesFile file _ = ⊥

-- the text is there, and is this spec
abbrev pub is_spec : Text → Option Text → Bool
is_spec spec (Some text) = bytes_eq text spec
is_spec spec None = false

-- a line of the link has the spec
abbrev pub has_spec : Text → Link → Bool
has_spec spec link = list_any (λ line. is_spec spec line.spec) link.lines

-- a spec of the links cannot be read, and is named, with a dependency that has it
pub record HasNoAnswer (links : List Link) (place : SpecPlace) : Type 0 where
  pub link : Link
  pub among : Contains links link
  pub owner : string_bytes place.owner ≡ link.from
  pub dependency : string_bytes place.dependency ≡ link.name
  pub has : has_spec (string_bytes place.spec) link ≡ true
  pub unread : (s : Spec) → IsSpec (string_bytes place.spec) s → ⊥

-- the links have no table
abbrev pub RefusesLinks : List Link → Refusal → Type 0
RefusesLinks links (refusal.Spec place) = HasNoAnswer links place
RefusesLinks links Memory = Unit {0}
RefusesLinks links _ = ⊥

-- the record is not read, or has a spec that cannot be read
abbrev pub RefusesTable : List ℕ → Refusal → Type 0
RefusesTable file (File error) = IsUnread file error
RefusesTable file Memory = Unit {0}
RefusesTable file other = (w : Workspace) × Reads record_file file (Ok w) × RefusesLinks w.links other

-- what is printed are no settings
abbrev pub RefusesPlatform : List ℕ → Refusal → Type 0
RefusesPlatform printed (Settings error) = RefusesSettings printed error
RefusesPlatform printed _ = ⊥

-- a word means no feature of the record
abbrev pub RefusesWords : Workspace → FeatureWords → Refusal → Type 0
RefusesWords w asked (Choice fault) = HasNoChoice w asked fault
RefusesWords w asked Memory = Unit {0}
RefusesWords w asked _ = ⊥

-- the record is not read, or a word means no feature of it
abbrev pub RefusesChoice : List ℕ → FeatureWords → Refusal → Type 0
RefusesChoice file asked (File error) = IsUnread file error
RefusesChoice file asked (Choice fault) = (w : Workspace) × Reads record_file file (Ok w) × HasNoChoice w asked fault
RefusesChoice file asked Memory = Unit {0}
RefusesChoice file asked _ = ⊥

-- what the program of a binary printed is not text, or has a line that is not a test's; either names the binary
abbrev pub RefusesPrinted : Text → List ℕ → Refusal → Type 0
RefusesPrinted id printed (UnreadList named) = (string_bytes named ≡ id) × (IsUtf8 printed → ⊥)
RefusesPrinted id printed (StrayLine named place) = (string_bytes named ≡ id) × IsUtf8 printed × IsStray (get_or (lines printed) place [])
RefusesPrinted id printed Memory = Unit {0}
RefusesPrinted id printed _ = ⊥

-- the name is the first that stands a second time among the tests
abbrev pub IsRepeated : List Text → Text → Type 0
IsRepeated tests name = (place : ℕ) × (first_repeat bytes_eq tests ≡ Some place) × (name ≡ get_or tests place [])

-- a binary has no tests where it should, or two of one name; either names the binary
abbrev pub RefusesTests : Text → Option (List Text) → Bool → Refusal → Type 0
RefusesTests id tests built (NoList named) = (string_bytes named ≡ id) × (tests ≡ None) × (built ≡ false)
RefusesTests id tests built (Repeated named name) = (string_bytes named ≡ id) × ((list : List Text) × (tests ≡ Some list) × IsRepeated list (string_bytes name))
RefusesTests id tests built Memory = Unit {0}
RefusesTests id tests built _ = ⊥

-- what nextest listed has no suites, or the tests of some binary are refused
abbrev pub RefusesSuites : Data → List Text → Bool → Refusal → Type 0
RefusesSuites list ids built NoSuites = get (codes "rust-suites") list ≡ None
RefusesSuites list ids built Memory = Unit {0}
RefusesSuites list ids built refusal = (id : Text) × Contains ids id × RefusesTests id (suite_tests list id) built refusal

-- what nextest printed is no JSON, or what it lists is refused
abbrev pub RefusesNextest : List ℕ → List Text → Bool → Refusal → Type 0
RefusesNextest printed ids built NoJson = IsUtf8 printed → read printed ≡ None
RefusesNextest printed ids built Memory = Unit {0}
RefusesNextest printed ids built refusal = (list : Data) × IsNextestList printed list × RefusesSuites list ids built refusal
