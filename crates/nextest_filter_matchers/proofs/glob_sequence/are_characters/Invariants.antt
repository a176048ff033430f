use Rattle.std.proofs.Common.{◌≡◌, drop}
use Rattle.nextest_filter_matchers.specs.Globs.{Empty, spelled, tokens_then}
use Rattle.nextest_filter_matchers.specs.GlobViews.{tokens_in}
use Rattle.nextest_filter_matchers.proofs.glob_sequence.are_characters.Given as goal

abbrev pub invariant-loop-token : goal.invariant-loop-token
invariant-loop-token l = tokens_then (tokens_in (drop l.token-index l.tokens)) Empty ≡ spelled l.rest → tokens_then (tokens_in l.tokens) Empty ≡ spelled l.characters
