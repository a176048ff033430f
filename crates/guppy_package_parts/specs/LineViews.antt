use Rattle.std.specs.Prelude.{Bool, true, false, ◌&&◌, List, filter}
use Rattle.workspace_record.specs.Records.{Line}
use Rattle.guppy_package_parts.specs.Lines.{is_kind, is_optional, is_required, asks_defaults, asks_no_defaults, lists, lines_at}
use Rattle.guppy_package_parts.specs.LineChoices.{takes}
use Rattle.guppy_package_parts.specs.declared.lines.Part.{Part}
use Rattle.guppy_package_parts.specs.declared.lines.Part.TheVariants.{All, AskingDefaults, NotAskingDefaults, Listing}
use Rattle.guppy_package_parts.specs.declared.lines.LineTest.{LineTest}
use Rattle.guppy_package_parts.specs.declared.lines.Lines.{Lines}
use Rattle.guppy_package_parts.specs.declared.lines.Lines.TheVariants.{Passing, Named, Chosen}

abbrev pub is_in_part : Part → Line → Bool
is_in_part All line = true
is_in_part AskingDefaults line = asks_defaults line
is_in_part NotAskingDefaults line = asks_no_defaults line
is_in_part (Listing feature) line = lists feature.now line

-- the line is optional, or it is required
abbrev pub is_in_half : Bool → Line → Bool
is_in_half true line = is_optional line
is_in_half false line = is_required line

-- the line passes the test
abbrev pub is_line_of : LineTest → Line → Bool
is_line_of test line = (is_kind test.kind line && is_in_part test.part line) && is_in_half test.optional line

-- the lines, in order
abbrev pub lines_of : Lines → List Line
lines_of (Passing lines test) = filter (is_line_of test) lines.now
lines_of (Named links places) = lines_at links.now places.now
lines_of (Chosen links places choice) = filter (takes choice) (lines_at links.now places.now)
