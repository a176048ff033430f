use Rattle.std.proofs.Common.{◌≡◌, ◌+◌, length, map, take}
use Rattle.nextest_filter_evaluation.specs.Compiled.{compiled_of}
use Rattle.nextest_filter_evaluation.specs.Questions.{AreReady, all_searches}
use Rattle.nextest_filter_evaluation.specs.Ready.{ready_of}
use Rattle.nextest_filter_evaluation.proofs.ready_filters.reduced_all.Given as goal

abbrev pub invariant-loop-filter : goal.invariant-loop-filter
invariant-loop-filter l = record {
  next : l.next ≡ l.at + length (all_searches (map (λ f. compiled_of f.now) (take l.filter-index l.filters)));
  ready : AreReady l.cx l.at (map (λ f. compiled_of f.now) (take l.filter-index l.filters)) (map ready_of l.ready.items);
}
