use Rattle.std.proofs.Common.{◌≡◌, ◌+◌, ◌++◌, true, IfSome, IfNone, sym, subst, arith}
use Rattle.nextest_filter_matchers.specs.Matchers.{Matcher, matcher_of}
use Rattle.nextest_filter_tokens.specs.FaultLists.{pattern_spans}
use Rattle.nextest_filter_syntax.specs.LeafGrammar.{MatcherBy, TextFrom, matcher_places}
use Rattle.nextest_filter_syntax.proofs.SignFacts.{SignEnds, sign_ends}
use Rattle.nextest_filter_syntax.proofs.LeafStepFacts.{goes_from, none_clean, spoils_any}
use Rattle.nextest_filter_syntax.proofs.matchers.matcher_from.Goals as goal

pub returns-in_ok-matcher-in-Slash-clause-goes_on : goal.returns-in_ok-matcher-in-Slash-clause-goes_on
returns-in_ok-matcher-in-Slash-clause-goes_on c =
    c.in_ok-matcher-in-Slash.ensures.goes_on

pub returns-in_ok-matcher-in-Slash-clause-spoils : goal.returns-in_ok-matcher-in-Slash-clause-spoils
returns-in_ok-matcher-in-Slash-clause-spoils c =
    c.in_ok-matcher-in-Slash.ensures.spoils

pub returns-in_ok-matcher-in-Slash-clause-as_written : goal.returns-in_ok-matcher-in-Slash-clause-as_written
returns-in_ok-matcher-in-Slash-clause-as_written c =
    c.in_ok-matcher-in-Slash.ensures.as_written

pub returns-in_ok-matcher-in-Slash-clause-read : goal.returns-in_ok-matcher-in-Slash-clause-read
returns-in_ok-matcher-in-Slash-clause-read c clean =
    subst (λ s. IfSome c.in_ok-matcher-in-Slash.matcher (λ m. MatcherBy c.args.text.now c.args.predicate c.args.at (matcher_of m) c.in_ok-matcher-in-Slash.end s)) c.in-Slash.ensures (c.in_ok-matcher-in-Slash.ensures.read clean)

pub returns-in_ok-matcher-in-Slash-clause-only : goal.returns-in_ok-matcher-in-Slash-clause-only
returns-in_ok-matcher-in-Slash-clause-only c clean m j from =
    c.in_ok-matcher-in-Slash.ensures.only clean m j (subst (MatcherBy c.args.text.now c.args.predicate c.args.at m j) (sym c.in-Slash.ensures) from)

pub returns-in_ok-matcher-in-Slash-clause-unbuilt : goal.returns-in_ok-matcher-in-Slash-clause-unbuilt
returns-in_ok-matcher-in-Slash-clause-unbuilt c clean =
    subst (λ s. IfNone c.in_ok-matcher-in-Slash.matcher ((x : Matcher) × MatcherBy c.args.text.now c.args.predicate c.args.at x c.in_ok-matcher-in-Slash.end s × (pattern_spans c.pattern_matcher.new.faults.list.items ≡ pattern_spans c.args.faults.now.list.items ++ matcher_places x c.args.at c.in_ok-matcher-in-Slash.end))) c.in-Slash.ensures (c.in_ok-matcher-in-Slash.ensures.unbuilt clean)

pub returns-in_ok-matcher-in-Says-clause-goes_on : goal.returns-in_ok-matcher-in-Says-clause-goes_on
returns-in_ok-matcher-in-Says-clause-goes_on c =
    goes_from c.args.text.now c.args.at (c.args.at + 1) c.in_ok-matcher-in-Says.end c.args.faults.now c.text_matcher.new.faults (omega arith) c.in_ok-matcher-in-Says.ensures.goes_on

pub returns-in_ok-matcher-in-Says-clause-spoils : goal.returns-in_ok-matcher-in-Says-clause-spoils
returns-in_ok-matcher-in-Says-clause-spoils c =
    spoils_any c.in_ok-matcher-in-Says.matcher c.args.faults.now c.text_matcher.new.faults c.in_ok-matcher-in-Says.ensures.spoils

pub returns-in_ok-matcher-in-Says-clause-as_written : goal.returns-in_ok-matcher-in-Says-clause-as_written
returns-in_ok-matcher-in-Says-clause-as_written c =
    c.in_ok-matcher-in-Says.ensures.as_written

pub returns-in_ok-matcher-in-Says-clause-read : goal.returns-in_ok-matcher-in-Says-clause-read
returns-in_ok-matcher-in-Says-clause-read c clean =
    subst (λ s. IfSome c.in_ok-matcher-in-Says.matcher (λ m. MatcherBy c.args.text.now c.args.predicate c.args.at (matcher_of m) c.in_ok-matcher-in-Says.end s)) c.in-Says.ensures (c.in_ok-matcher-in-Says.ensures.read clean)

pub returns-in_ok-matcher-in-Says-clause-only : goal.returns-in_ok-matcher-in-Says-clause-only
returns-in_ok-matcher-in-Says-clause-only c clean m j from =
    c.in_ok-matcher-in-Says.ensures.only clean m j (subst (MatcherBy c.args.text.now c.args.predicate c.args.at m j) (sym c.in-Says.ensures) from)

pub returns-in_ok-matcher-in-Says-clause-unbuilt : goal.returns-in_ok-matcher-in-Says-clause-unbuilt
returns-in_ok-matcher-in-Says-clause-unbuilt c clean =
    none_clean _ c.in_ok-matcher-in-Says.matcher c.args.faults.now c.text_matcher.new.faults c.in_ok-matcher-in-Says.ensures.spoils clean

pub returns-in_ok-matcher-in-Bare-clause-goes_on : goal.returns-in_ok-matcher-in-Bare-clause-goes_on
returns-in_ok-matcher-in-Bare-clause-goes_on c =
    c.in_ok-matcher-in-Bare.ensures.goes_on

pub returns-in_ok-matcher-in-Bare-clause-spoils : goal.returns-in_ok-matcher-in-Bare-clause-spoils
returns-in_ok-matcher-in-Bare-clause-spoils c =
    spoils_any c.in_ok-matcher-in-Bare.matcher c.args.faults.now c.text_matcher-in-Bare.new.faults c.in_ok-matcher-in-Bare.ensures.spoils

pub returns-in_ok-matcher-in-Bare-clause-as_written : goal.returns-in_ok-matcher-in-Bare-clause-as_written
returns-in_ok-matcher-in-Bare-clause-as_written c =
    c.in_ok-matcher-in-Bare.ensures.as_written

pub returns-in_ok-matcher-in-Bare-clause-read : goal.returns-in_ok-matcher-in-Bare-clause-read
returns-in_ok-matcher-in-Bare-clause-read c clean =
    subst (λ s. IfSome c.in_ok-matcher-in-Bare.matcher (λ m. MatcherBy c.args.text.now c.args.predicate c.args.at (matcher_of m) c.in_ok-matcher-in-Bare.end s)) c.in-Bare.ensures (subst (λ s. IfSome c.in_ok-matcher-in-Bare.matcher (λ m. TextFrom c.args.text.now s true c.args.at (matcher_of m) c.in_ok-matcher-in-Bare.end)) c.default_style-style.ensures (c.in_ok-matcher-in-Bare.ensures.read clean))

pub returns-in_ok-matcher-in-Bare-clause-only : goal.returns-in_ok-matcher-in-Bare-clause-only
returns-in_ok-matcher-in-Bare-clause-only c clean m j from =
    let by = subst (MatcherBy c.args.text.now c.args.predicate c.args.at m j) (sym c.in-Bare.ensures) from in
    c.in_ok-matcher-in-Bare.ensures.only clean m j (subst (λ s. TextFrom c.args.text.now s true c.args.at m j) (sym c.default_style-style.ensures) by)

pub returns-in_ok-matcher-in-Bare-clause-unbuilt : goal.returns-in_ok-matcher-in-Bare-clause-unbuilt
returns-in_ok-matcher-in-Bare-clause-unbuilt c clean =
    none_clean _ c.in_ok-matcher-in-Bare.matcher c.args.faults.now c.text_matcher-in-Bare.new.faults c.in_ok-matcher-in-Bare.ensures.spoils clean

pub pattern_matcher-requires-clause-slash : goal.pattern_matcher-requires-clause-slash
pattern_matcher-requires-clause-slash c =
    (subst (SignEnds c.args.text.now c.args.at) (sym c.in-Slash.ensures) (sign_ends c.args.text.now c.utf8.text c.args.at)).0

pub pattern_matcher-requires-clause-at : goal.pattern_matcher-requires-clause-at
pattern_matcher-requires-clause-at c =
    (subst (SignEnds c.args.text.now c.args.at) (sym c.in-Slash.ensures) (sign_ends c.args.text.now c.utf8.text c.args.at)).1.1

pub pattern_matcher-requires-clause-boundary : goal.pattern_matcher-requires-clause-boundary
pattern_matcher-requires-clause-boundary c =
    (subst (SignEnds c.args.text.now c.args.at) (sym c.in-Slash.ensures) (sign_ends c.args.text.now c.utf8.text c.args.at)).1.2

pub text_matcher-requires-clause-at : goal.text_matcher-requires-clause-at
text_matcher-requires-clause-at c =
    (subst (SignEnds c.args.text.now c.args.at) (sym c.in-Says.ensures) (sign_ends c.args.text.now c.utf8.text c.args.at)).1

pub text_matcher-requires-clause-boundary : goal.text_matcher-requires-clause-boundary
text_matcher-requires-clause-boundary c =
    (subst (SignEnds c.args.text.now c.args.at) (sym c.in-Says.ensures) (sign_ends c.args.text.now c.utf8.text c.args.at)).2
