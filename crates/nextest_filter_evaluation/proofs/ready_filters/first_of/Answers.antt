use Rattle.std.proofs.Common.{◌∙◌, ◌↔◌, IsTrue, map, subst, sym, true≢false}
use Rattle.regex.specs.Strings.{matcher_pattern}
use Rattle.nextest_filter_evaluation.specs.Formulas.{Holds}
use Rattle.nextest_filter_evaluation.specs.Ready.{Says, ready_of}
use Rattle.nextest_filter_evaluation.proofs.QuestionFacts.{found_here, found_later, found_none}
use Rattle.nextest_filter_evaluation.proofs.ready_filters.first_of.Goals as goal

pub returns-then-holds-clause-first : goal.returns-then-holds-clause-first
returns-then-holds-clause-first c =
    let P = Holds (Says (map matcher_pattern c.args.searchers.now) c.args.group c.args.name.now) in
    let says : IsTrue c.holds.result ↔ P (ready_of c.index-filters-place.result) = subst (λ ps. IsTrue c.holds.result ↔ Holds (Says ps c.args.group c.args.name.now) (ready_of c.index-filters-place.result)) c.loop-place.invariant.same c.holds.ensures.holds in
    found_here P ready_of c.args.filters.now c.loop-place.place c.index-filters-place.result c.loop-place-test.true c.index-filters-place.is c.loop-place.invariant.first (says.0 c.if-holds.true)

pub loop-place-preserved : goal.loop-place-preserved
loop-place-preserved c =
    let P = Holds (Says (map matcher_pattern c.args.searchers.now) c.args.group c.args.name.now) in
    let says : IsTrue c.holds.result ↔ P (ready_of c.index-filters-place.result) = subst (λ ps. IsTrue c.holds.result ↔ Holds (Says ps c.args.group c.args.name.now) (ready_of c.index-filters-place.result)) c.loop-place.invariant.same c.holds.ensures.holds in
    record {
      same = c.holds.ensures.same ∙ c.loop-place.invariant.same;
      first = found_later P ready_of c.args.filters.now c.loop-place.place c.index-filters-place.result c.loop-place-test.true c.index-filters-place.is c.loop-place.invariant.first (λ p. true≢false (sym (says.1 p) ∙ c.if-holds.false));
    }

pub returns-clause-first : goal.returns-clause-first
returns-clause-first c =
    found_none (Holds (Says (map matcher_pattern c.args.searchers.now) c.args.group c.args.name.now)) ready_of c.args.filters.now c.loop-place.place c.loop-place-test.false c.loop-place.invariant.first
