-- Some of the lines of a link.
use Rattle.std.specs.Prelude.{ℕ, List, slice_get}
use Rattle.std.specs.List.{filter_map}
use Rattle.workspace_record.specs.Records.{Line}

-- the lines at these places, in the order of the places
abbrev pub lines_at : List Line → List ℕ → List Line
lines_at lines places = filter_map (slice_get lines) places
