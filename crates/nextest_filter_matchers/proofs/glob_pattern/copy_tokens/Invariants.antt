use Rattle.std.proofs.Common.{◌≡◌, ◌++◌, drop}
use Rattle.nextest_filter_matchers.specs.GlobViews.{tokens_in}
use Rattle.nextest_filter_matchers.proofs.glob_pattern.copy_tokens.Given as goal

abbrev pub invariant-loop-token : goal.invariant-loop-token
invariant-loop-token l = tokens_in l.copied.items ++ tokens_in (drop l.token-index l.tokens) ≡ tokens_in l.tokens
