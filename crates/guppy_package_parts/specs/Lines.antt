-- Lines of a manifest, told by what they say.
use Rattle.std.specs.Prelude.{ℕ, Bool, not, List, nat_eq, filter, Option, slice_get, option_and_then, is_some, IsTrue}
use Rattle.std.specs.List.{list_any, filter_map}
use Rattle.std.specs.Str.{bytes_eq}
use Rattle.workspace_record.specs.Records.{Text, Line, Link}
use Rattle.workspace_record.specs.Kinds.{line_kind_index}
use Rattle.workspace_record.specs.declared.kinds.LineKind.{LineKind}

abbrev pub is_kind : LineKind → Line → Bool
is_kind kind line = nat_eq (line_kind_index line.kind) (line_kind_index kind)

abbrev pub is_optional : Line → Bool
is_optional line = line.optional

abbrev pub is_required : Line → Bool
is_required line = not line.optional

abbrev pub asks_defaults : Line → Bool
asks_defaults line = line.default_features

abbrev pub asks_no_defaults : Line → Bool
asks_no_defaults line = not line.default_features

abbrev pub lists : Text → Line → Bool
lists feature line = list_any (bytes_eq feature) line.features

-- the line that is named by the place of its link, and by its place in it
abbrev pub line_at : List Link → ℕ × ℕ → Option Line
line_at links place = option_and_then (λ link. slice_get link.lines place.1) (slice_get links place.0)

-- there is such a line
abbrev pub IsLineAt : List Link → ℕ × ℕ → Type 0
IsLineAt links place = IsTrue (is_some (line_at links place))

-- the lines that are named, in the order of their names
abbrev pub lines_at : List Link → List (ℕ × ℕ) → List Line
lines_at links places = filter_map (line_at links) places

-- the lines of a kind
abbrev pub lines_of_kind : LineKind → List Line → List Line
lines_of_kind kind lines = filter (is_kind kind) lines
