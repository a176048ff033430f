use Rattle.std.specs.Prelude.{ℕ}
use Rattle.workspace_record.specs.Records.{Line, Link}
use Rattle.guppy_feature_demands.specs.declared.link_ends.LinkEnds.{LinkEnds}
use Rattle.guppy_feature_demands.specs.declared.numbered.NumberedLink.{NumberedLink}
use Rattle.guppy_feature_demands.specs.declared.numbered.LineAt.{LineAt}

-- a link and its number
abbrev pub link_view : NumberedLink → ℕ × Link
link_view link = (link.number, link.row.now)

-- the same, of a link whose ends are known
abbrev pub ends_view : LinkEnds → ℕ × Link
ends_view ends = link_view ends.at

-- a line and its place
abbrev pub line_view : LineAt → (ℕ × ℕ) × Line
line_view line = (line.place, line.row.now)
