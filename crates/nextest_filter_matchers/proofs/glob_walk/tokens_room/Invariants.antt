use Rattle.std.proofs.Common.{◌≡◌, ◌+◌, ◌≤◌, drop}
use Rattle.nextest_filter_matchers.specs.GlobViews.{tokens_in}
use Rattle.nextest_filter_matchers.specs.Walks.{tokens_room}
use Rattle.nextest_filter_matchers.proofs.glob_walk.tokens_room.Given as goal

abbrev pub invariant-loop-token : goal.invariant-loop-token
invariant-loop-token l = record {
  counts : l.count + tokens_room (tokens_in (drop l.token-index l.tokens)) ≡ tokens_room (tokens_in l.tokens);
  fits : l.count ≤ 65536;
}
