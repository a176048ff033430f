use Rattle.std.proofs.Common.{length}
use Rattle.std.specs.Str.{chars}
use Rattle.nextest_filter_matchers.specs.GlobViews.{glob_of}
use Rattle.nextest_filter_matchers.proofs.WalkFacts.{Walks}
use Rattle.nextest_filter_matchers.proofs.glob_walk.leads_through.Given as goal

abbrev pub invariant-loop-c : goal.invariant-loop-c
invariant-loop-c l = Walks (chars l.text) (glob_of l.pattern) (length l.yielded) l.is_led l.flags
