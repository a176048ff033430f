use Rattle.std.proofs.Common.{◌∙◌, arith, length, map, sym, true≢false}
use Rattle.std.proofs.lemmas.List.{length-map}
use Rattle.nextest_filter_evaluation.specs.Compiled.{compiled_of}
use Rattle.nextest_filter_evaluation.specs.Meaning.{Passes}
use Rattle.nextest_binaries.specs.Queries.{test_of}
use Rattle.nextest_filter_evaluation.proofs.QuestionFacts.{found_here, found_later, found_none}
use Rattle.test_select_tests.proofs.FirstFacts.{none_holds}
use Rattle.test_select_checks.specs.CompiledViews.{filters_view}
use Rattle.test_select_checks.specs.Groups.{IsGroupMember}
use Rattle.test_select_tests.proofs.holding.first_among.Goals as goal

pub returns-then-branch : goal.returns-then-branch
returns-then-branch c =
    let t = test_of c.args.test.now in
    let P = Passes (compiled_of c.args.cx.now.default_filter.now) (IsGroupMember (filters_view c.args.groups.now.filters.now) t) t in (
      found_here P compiled_of c.args.texts.now c.loop-place.place c.index-texts-place.result c.loop-place-test.true c.index-texts-place.is c.loop-place.invariant (c.in_ok-matches_test_by.ensures.holds.0 c.if-branch.true),
      omega (arith, c.loop-place-test.true, length-map c.args.texts.now compiled_of),
    )

pub loop-place-preserved : goal.loop-place-preserved
loop-place-preserved c =
    let t = test_of c.args.test.now in
    let P = Passes (compiled_of c.args.cx.now.default_filter.now) (IsGroupMember (filters_view c.args.groups.now.filters.now) t) t in
    found_later P compiled_of c.args.texts.now c.loop-place.place c.index-texts-place.result c.loop-place-test.true c.index-texts-place.is c.loop-place.invariant (λ p. true≢false (sym (c.in_ok-matches_test_by.ensures.holds.1 p) ∙ c.if-branch.false))

pub returns : goal.returns
returns c =
    let t = test_of c.args.test.now in
    let P = Passes (compiled_of c.args.cx.now.default_filter.now) (IsGroupMember (filters_view c.args.groups.now.filters.now) t) t in
    none_holds P (map compiled_of c.args.texts.now) (length c.args.texts.now) (found_none P compiled_of c.args.texts.now c.loop-place.place c.loop-place-test.false c.loop-place.invariant) (omega (arith, length-map c.args.texts.now compiled_of))
