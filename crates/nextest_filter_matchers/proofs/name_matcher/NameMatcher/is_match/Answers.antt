use Rattle.std.proofs.lemmas.Str.Pattern.{contains_text}
use Rattle.nextest_filter_matchers.proofs.name_matcher.NameMatcher.is_match.Goals as goal

pub returns-in-Contains-clause-matches : goal.returns-in-Contains-clause-matches
returns-in-Contains-clause-matches c =
    let found = contains_text _ _ _ c.contains.ensures.cases in
    rw c.in-Contains.is (rw c.as_str-in-Contains.ensures.value at found)
