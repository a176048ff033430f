-- What clauses see of what was read.
use Rattle.std.specs.Prelude.{ℕ, List, Bool, Result, Ok, Err}
use Rattle.nextest_filter_matchers.specs.Globs.{Glob, Token, Empty, tokens_then}
use Rattle.nextest_filter_matchers.specs.declared.glob_pattern.Pattern.{Pattern}
use Rattle.nextest_filter_matchers.specs.declared.glob_error.GlobError.{GlobError}
use Rattle.nextest_filter_matchers.specs.GlobReading as spec
use Rattle.nextest_filter_matchers.specs.GlobViews.{glob_of, token_of}
use Rattle.nextest_filter_matchers.specs.declared.glob_reading.ClassRead.{ClassRead}
use Rattle.nextest_filter_matchers.specs.declared.glob_reading.ClassRead.TheVariants.{Closed, Bad as BadClass}
use Rattle.nextest_filter_matchers.specs.declared.glob_reading.Piece.{Piece}
use Rattle.nextest_filter_matchers.specs.declared.glob_reading.Piece.TheVariants.{End, Stands, Open, Comma, Close, Bad as BadPiece}
use Rattle.nextest_filter_matchers.specs.declared.glob_reading.RunEnd.{RunEnd}
use Rattle.nextest_filter_matchers.specs.declared.glob_reading.RunEnd.TheVariants.{Ends, Opens, Bad as BadRun}
use Rattle.nextest_filter_matchers.specs.declared.glob_reading.PatternRead.{PatternRead}
use Rattle.nextest_filter_matchers.specs.declared.glob_reading.PatternRead.TheVariants.{Read, Bad as BadPattern}

abbrev pub class_outcome : ClassRead → spec.ClassOutcome
class_outcome (Closed ranges text) = spec.Closed ranges.items text.now
class_outcome (BadClass error) = spec.BadClass error

abbrev pub piece_view : Piece → spec.Piece
piece_view End = spec.Ends
piece_view (Stands token text) = spec.Stands (token_of token) text.now
piece_view (Open text) = spec.Opens text.now
piece_view (Comma text) = spec.Separates text.now
piece_view (Close text) = spec.Closes text.now
piece_view (BadPiece error) = spec.Fails error

abbrev pub outcome_of : PatternRead → spec.Outcome
outcome_of (Read pattern text) = spec.Reads (glob_of pattern) text.now
outcome_of (BadPattern error) = spec.Refuses error

abbrev pub read_view : Result Pattern GlobError → Result Glob GlobError
read_view (Ok pattern) = Ok (glob_of pattern)
read_view (Err error) = Err error

-- how a run of tokens ends
pub data RunStop : Type 0 where
  OnExit : List ℕ → RunStop
  AtGroup : List ℕ → RunStop
  AtFault : GlobError → RunStop

abbrev pub end_of : RunEnd → RunStop
end_of (Ends text) = OnExit text.now
end_of (Opens text) = AtGroup text.now
end_of (BadRun error) = AtFault error

-- what is read from there on
abbrev pub end_outcome : (spec.Part → List ℕ → spec.Outcome) → Bool → RunStop → spec.Outcome
end_outcome next inside (OnExit text) = spec.Reads Empty text
end_outcome next inside (AtGroup text) = spec.after_alternates next inside (next spec.Alternates text)
end_outcome next inside (AtFault error) = spec.Refuses error

abbrev pub IsOpen : RunStop → Type 0
IsOpen (AtGroup text) = Unit {0}
IsOpen _ = ⊥

-- the tokens before what is read
abbrev pub prefixed : List Token → spec.Outcome → spec.Outcome
prefixed tokens (spec.Reads glob text) = spec.Reads (tokens_then tokens glob) text
prefixed tokens (spec.Refuses error) = spec.Refuses error
