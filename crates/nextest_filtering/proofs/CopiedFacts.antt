-- Faults copied one by one, and copies of matchers.
use Rattle.std.proofs.Common.{◌≡◌, List, [], ◌∷◌, ◌++◌, Result, Ok, Err, IfOk}
use Rattle.nextest_filter_tokens.specs.Copies.{SameFault}
use Rattle.nextest_filter_tokens.specs.declared.parse_error.ParseSingleError.{ParseSingleError}
use Rattle.nextest_filter_matchers.specs.Copies.{pattern_of}
use Rattle.nextest_filter_matchers.specs.Matchers.{matcher_of}
use Rattle.nextest_filter_matchers.specs.declared.name_matcher.NameMatcher.{NameMatcher}
use Rattle.nextest_filter_evaluation.specs.NameTests.{name_test}
use Rattle.nextest_filter_evaluation.proofs.NameFacts.{same_test}
use Rattle.nextest_filtering.specs.CopiedFaults.{AreSame}

-- one more fault
pub one_more : (faults copies : List ParseSingleError) (fault copy : ParseSingleError) → AreSame faults copies → SameFault fault copy → AreSame (faults ++ fault ∷ []) (copies ++ copy ∷ [])
one_more [] [] fault copy h k = (k, tt)
one_more [] (c ∷ copies) fault copy h k = absurd h
one_more (f ∷ faults) [] fault copy h k = absurd h
one_more (f ∷ faults) (c ∷ copies) fault copy h k = (h.0, one_more faults copies fault copy h.1 k)

-- a copy of a matcher matches the same names
pub copied_test : {E : Type 0} (r : Result NameMatcher E) (a : NameMatcher) → IfOk r (λ m. matcher_of m ≡ matcher_of a) → IfOk r (λ m. pattern_of m ≡ pattern_of a) → IfOk r (λ m. name_test m ≡ name_test a)
copied_test (Ok m) a values patterns = same_test m a values patterns
copied_test (Err refused) a values patterns = values
