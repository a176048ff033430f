use Rattle.std.proofs.Common.{◌+◌, ◌-◌, ◌≡◌, refl, sym, ◌∙◌, subst, arith, length, string_bytes}
use Rattle.nextest_filter_matchers.specs.Matchers.{Regex}
use Rattle.nextest_filter_tokens.specs.Patterns.{ReadsPattern}
use Rattle.nextest_filter_syntax.specs.LeafGrammar.{PatternFrom}
use Rattle.nextest_filter_syntax.proofs.ReadFacts.{pattern_is, refused_at}
use Rattle.nextest_filter_syntax.proofs.matchers.pattern_matcher.Goals as goal

pub returns-in_ok-matcher-in-Some-clause-spoils : goal.returns-in_ok-matcher-in-Some-clause-spoils
returns-in_ok-matcher-in-Some-clause-spoils c =
    c.in_ok-matcher-in-Some.ensures.spoils

pub returns-in_ok-matcher-in-Some-clause-as_written : goal.returns-in_ok-matcher-in-Some-clause-as_written
returns-in_ok-matcher-in-Some-clause-as_written c =
    c.in_ok-matcher-in-Some.ensures.as_written

pub returns-in_ok-report-in-None-clause-goes_on : goal.returns-in_ok-report-in-None-clause-goes_on
returns-in_ok-report-in-None-clause-goes_on c =
    let report = c.in_ok-report-in-None.ensures in
    let up_to = c.close_place-end.ensures.up_to in
    let within = report.within (length c.args.text.now) c.requires.faults.0 (omega (arith, up_to.end)) in
    (omega (arith, up_to.rises), up_to.end, (report.grows, report.keeps_syntax, (within, report.same_over c.args.text.now c.requires.faults.1 refl)))

pub returns-in_ok-report-in-None-clause-spoils : goal.returns-in_ok-report-in-None-clause-spoils
returns-in_ok-report-in-None-clause-spoils c =
    (tt, c.in_ok-report-in-None.ensures.some)

pub returns-in_ok-report-in-None-clause-unbuilt : goal.returns-in_ok-report-in-None-clause-unbuilt
returns-in_ok-report-in-None-clause-unbuilt c clean =
    absurd (omega (arith, clean, c.in_ok-report-in-None.ensures.syntax refl))

pub returns-in_ok-report-in-None-clause-only : goal.returns-in_ok-report-in-None-clause-only
returns-in_ok-report-in-None-clause-only c clean m j from =
    let unread = rw c.in-None.is at c.in_ok-pattern.ensures.unread in
    absurd (unread from.bytes from.end from.reads)

pub returns-in_ok-matcher-in-Some-clause-goes_on : goal.returns-in_ok-matcher-in-Some-clause-goes_on
returns-in_ok-matcher-in-Some-clause-goes_on c =
    let matcher = c.in_ok-matcher-in-Some.ensures in
    let start = c.args.at + 1 in
    let rises = rw c.in-Some.is at c.in_ok-pattern.ensures.rises in
    let ends = rw c.in-Some.is at c.in_ok-pattern.ensures.within in
    let read = rw c.in-Some.is at c.in_ok-pattern.ensures.read in
    let same : c.in-Some.end ≡ start + (c.in-Some.end - start) = omega (arith, rises) in
    let reads = subst (λ k. ReadsPattern c.args.text.now start (string_bytes c.in-Some.pattern) k) same read in
    let within = matcher.within (length c.args.text.now) c.requires.faults.0 (omega (arith, rises, ends)) in
    let over = matcher.over c.args.text.now c.requires.faults.1 (record { slash = c.args.at; pattern = string_bytes c.in-Some.pattern; begins = c.requires.begins; stands = c.requires.slash; after = refl; reads = reads }) in
    (omega (arith, rises), omega (arith, ends), (matcher.grows, omega (arith, matcher.syntax), (within, over)))

pub returns-in_ok-matcher-in-Some-clause-only : goal.returns-in_ok-matcher-in-Some-clause-only
returns-in_ok-matcher-in-Some-clause-only c clean m j from =
    let read = rw c.in-Some.is at c.in_ok-pattern.ensures.read in
    (sym (pattern_is c.args.text.now read from), c.in_ok-matcher-in-Some.ensures.syntax ∙ clean)

pub returns-in_ok-matcher-in-Some-clause-unbuilt : goal.returns-in_ok-matcher-in-Some-clause-unbuilt
returns-in_ok-matcher-in-Some-clause-unbuilt c clean =
    let reads = rw c.in-Some.is at c.in_ok-pattern.ensures.read in
    let from : PatternFrom c.args.text.now (c.args.at + 1) (Regex (string_bytes c.in-Some.pattern)) (c.in-Some.end + 1) = record { bytes = string_bytes c.in-Some.pattern; end = c.in-Some.end; reads = reads; is = refl; after = refl } in
    let same : c.in-Some.end ≡ (c.in-Some.end + 1) - 1 = omega arith in
    refused_at _ _ (c.args.at + 1) c.in-Some.end ((c.in-Some.end + 1) - 1) c.in_ok-matcher-in-Some.matcher same (λ refused. (Regex (string_bytes c.in-Some.pattern), from, refused)) (c.in_ok-matcher-in-Some.ensures.refused clean)
