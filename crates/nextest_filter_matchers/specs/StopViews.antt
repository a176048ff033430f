-- What clauses see of the stops of a glob's tokens.
use Rattle.std.specs.Prelude.{ℕ, ◌+◌, Bool, false, Option, Some, None, length}
use Rattle.std.specs.List.{list_any}
use Rattle.std.specs.Str.{chars}
use Rattle.nextest_filter_matchers.specs.declared.glob_sequence.Stop.{Stop}
use Rattle.nextest_filter_matchers.specs.declared.glob_sequence.Stop.TheVariants.{End, Gap}
use Rattle.nextest_filter_matchers.specs.GlobViews.{tokens_in}
use Rattle.nextest_filter_matchers.specs.Sequences as spec

abbrev pub stop_of : Stop → spec.Stop
stop_of End = spec.End
stop_of (Gap of_folders tokens text) = spec.Gap of_folders (tokens_in tokens.now) (chars text.now)

-- what is left suits, if anything can
abbrev pub SuitsRest : Option Stop → Type 0
SuitsRest None = ⊥
SuitsRest (Some stop) = spec.SuitsStop (stop_of stop)

-- a token of the front of a glob is left
abbrev pub has_leading : Option Stop → Bool
has_leading (Some (Gap of_folders tokens text)) = list_any spec.is_leading (tokens_in tokens.now)
has_leading stop = false

-- how many tokens are left, and the gap before them
abbrev pub tokens_left : Option Stop → ℕ
tokens_left (Some (Gap of_folders tokens text)) = length tokens.now + 1
tokens_left stop = 0
