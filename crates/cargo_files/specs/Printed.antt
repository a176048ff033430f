-- The settings of a platform as they are printed, a line for each.
use Rattle.std.specs.Prelude.{◌≡◌, ◌⊎◌, ◌<◌, ◌≤◌, ℕ, ◌+◌, List, [], ◌∷◌, ◌++◌, length, nat_eq, slice_range, Option, Some, None, IsSomeAnd, option_map, if◌then◌else◌}
use Rattle.std.specs.Str.{IsUtf8}
use Rattle.workspace_record.specs.Records.{Text}
use Rattle.cargo_files.specs.Bytes.{run_end}
use Rattle.cargo_files.specs.Heads.{head_at}
use Rattle.cargo_files.specs.Settings.{Setting}
use Rattle.cargo_files.specs.declared.bytes.Run.TheVariants as run
use Rattle.cargo_files.specs.declared.head.Head.{Head}
use Rattle.cargo_files.specs.declared.head.Head.TheVariants.{Name, Pair}
use Rattle.cargo_files.specs.declared.settings.SettingsError.{SettingsError}
use Rattle.cargo_files.specs.declared.settings.SettingsError.TheVariants.{Line, NotText, Memory}

-- a name, or a name and its value, that ends where the line does
abbrev pub setting_by : Text → Head → Option Setting
setting_by line (Name s e) =
    if nat_eq e (length line) then Some (record { name = slice_range line s e; value = None }) else None
setting_by line (Pair s e q c) =
    if nat_eq (c + 1) (length line) then Some (record { name = slice_range line s e; value = Some (slice_range line q c) }) else None
setting_by line _ = None

-- the setting that a line is
unfoldable pub setting_in : Text → Option Setting
setting_in line = setting_by line (head_at line 0)

-- the settings of a line: none, if it is blank
abbrev pub settings_in : Text → Option (List Setting)
settings_in [] = Some []
settings_in (c ∷ line) = option_map (λ s. s ∷ []) (setting_in (c ∷ line))

-- from a place on, which begins a line, these are the settings, in order
pub data AreSettings (text : List ℕ) : ℕ → List Setting → Type 0 where
  ended : {i : ℕ} → length text ≤ i → AreSettings text i []
  lines : {i : ℕ} {xs ys : List Setting} → i < length text → settings_in (slice_range text i (run_end run.Line text i)) ≡ Some xs → AreSettings text (run_end run.Line text i + 1) ys → AreSettings text i (xs ++ ys)

-- the line that begins at the place
abbrev pub line_at : List ℕ → ℕ → Text
line_at text i = slice_range text i (run_end run.Line text i)

-- a line begins at the place
pub data BeginsLine (text : List ℕ) : ℕ → Type 0 where
  first : BeginsLine text 0
  next : {i : ℕ} → i < length text → BeginsLine text i → BeginsLine text (run_end run.Line text i + 1)

-- the name of the setting is no text, or its value is none
abbrev pub HasNoText : Setting → Type 0
HasNoText s = (IsUtf8 s.name → ⊥) ⊎ IsSomeAnd s.value (λ value. IsUtf8 value → ⊥)

-- the bytes are no text; or memory ran out
abbrev pub RefusesText : List ℕ → SettingsError → Type 0
RefusesText bytes (Line i) = ⊥
RefusesText bytes NotText = IsUtf8 bytes → ⊥
RefusesText bytes Memory = Unit {0}

-- the line at the place is no setting, or one that is no text; or memory ran out
abbrev pub RefusesLine : Text → ℕ → SettingsError → Type 0
RefusesLine line at (Line i) = (i ≡ at) × (setting_in line ≡ None)
RefusesLine line at NotText = (s : Setting) × (setting_in line ≡ Some s) × HasNoText s
RefusesLine line at Memory = Unit {0}

-- a line that is neither blank nor a setting is told by its place, so the text has no settings; or a line is a setting that is no text
abbrev pub RefusesSettings : List ℕ → SettingsError → Type 0
RefusesSettings text (Line i) =
    BeginsLine text i × (0 < length (line_at text i)) × (setting_in (line_at text i) ≡ None) × ((xs : List Setting) → AreSettings text 0 xs → ⊥)
RefusesSettings text NotText = (i : ℕ) × BeginsLine text i × ((s : Setting) × (setting_in (line_at text i) ≡ Some s) × HasNoText s)
RefusesSettings text Memory = Unit {0}
