use Rattle.std.proofs.Common.{All, take}
use Rattle.std.specs.Str.{chars}
use Rattle.nextest_filter_matchers.specs.Globs.{GlobMatches}
use Rattle.nextest_filter_matchers.specs.Matchers.{tokens_of}
use Rattle.test_select_changes.proofs.looking.is_taken.Given as goal

abbrev pub invariant-loop-glob : goal.invariant-loop-glob
invariant-loop-glob l = All (λ glob. GlobMatches (tokens_of glob) (chars l.path) → ⊥) (take l.glob-index l.ignored)
