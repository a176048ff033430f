use Rattle.std.proofs.Common.{◌≡◌, ◌+◌, ℕ, drop, map}
use Rattle.regex.specs.Strings.{matcher_pattern}
use Rattle.nextest_filter_evaluation.specs.Formulas.{Holds}
use Rattle.nextest_filter_evaluation.specs.Questions.{IsFirst}
use Rattle.nextest_filter_evaluation.specs.Ready.{Says, ready_of}
use Rattle.nextest_filter_evaluation.proofs.ready_filters.first_of.Given as goal

abbrev pub invariant-loop-place : goal.invariant-loop-place
invariant-loop-place l = record {
  same : map matcher_pattern l.searchers ≡ map matcher_pattern l.fn.searchers;
  first : (k : ℕ) → IsFirst (Holds (Says (map matcher_pattern l.fn.searchers) l.group l.name)) (map ready_of (drop l.place l.filters)) k → IsFirst (Holds (Says (map matcher_pattern l.fn.searchers) l.group l.name)) (map ready_of l.filters) (l.place + k);
}
