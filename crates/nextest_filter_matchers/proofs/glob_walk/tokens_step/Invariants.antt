use Rattle.std.proofs.Common.{◌≡◌, ◌+◌, drop, length}
use Rattle.nextest_filter_matchers.specs.Globs.{Glob, tokens_then}
use Rattle.nextest_filter_matchers.specs.GlobViews.{tokens_in}
use Rattle.nextest_filter_matchers.specs.Walks.{glob_step, tokens_room}
use Rattle.nextest_filter_matchers.proofs.glob_walk.tokens_step.Given as goal

abbrev pub invariant-loop-token : goal.invariant-loop-token
invariant-loop-token l = record {
  steps : (more : Glob) → glob_step (tokens_then (tokens_in l.tokens) more) l.c l.is_begun l.initial.flags l.at ≡ glob_step (tokens_then (tokens_in (drop l.token-index l.tokens)) more) l.c l.is_led l.flags l.next;
  counts : l.next + tokens_room (tokens_in (drop l.token-index l.tokens)) ≡ l.at + tokens_room (tokens_in l.tokens);
  size : length l.flags ≡ length l.initial.flags;
}
