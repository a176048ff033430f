-- Selections and their reports.
use Rattle.std.specs.Prelude.{List, ◌++◌, codes}
use Rattle.std.specs.List.{flat_map}
use Rattle.workspace_record.specs.Records.{Text}

-- the chosen tests, each under its binary's id, and the ids of the binaries that were asked
pub record Selected : Type 0 where
  pub chosen : List (Text × Text)
  pub asked : List Text

-- a binary's id, a space, a test's name and a line feed
abbrev pub line : Text × Text → Text
line pair = pair.0 ++ (codes " " ++ (pair.1 ++ codes "\n"))

-- a line for each chosen test
abbrev pub report : List (Text × Text) → Text
report pairs = flat_map line pairs
