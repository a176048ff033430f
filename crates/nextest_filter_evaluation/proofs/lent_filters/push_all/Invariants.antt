use Rattle.std.proofs.Common.{◌≡◌, ◌++◌, map, take}
use Rattle.regex.specs.Strings.{matcher_pattern}
use Rattle.nextest_filter_evaluation.specs.Compiled.{compiled_of}
use Rattle.nextest_filter_evaluation.specs.Questions.{all_searches}
use Rattle.nextest_filter_evaluation.proofs.lent_filters.push_all.Given as goal

abbrev pub invariant-loop-filter : goal.invariant-loop-filter
invariant-loop-filter l =
    map matcher_pattern l.searchers.items ≡ map matcher_pattern l.fn.searchers.items ++ all_searches (map (λ f. compiled_of f.now) (take l.filter-index l.filters))
