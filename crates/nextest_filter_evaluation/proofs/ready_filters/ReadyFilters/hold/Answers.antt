use Rattle.std.proofs.Common.{◌∙◌, ap, length, map, sym}
use Rattle.std.proofs.lemmas.List.{length-map}
use Rattle.nextest_filter_evaluation.specs.Questions.{ready_view}
use Rattle.nextest_filter_evaluation.specs.Ready.{ready_of}
use Rattle.nextest_filter_evaluation.proofs.QuestionFacts.{all_say}
use Rattle.nextest_filter_evaluation.proofs.ready_filters.ReadyFilters.hold.Goals as goal

pub returns-clause-hold : goal.returns-clause-hold
returns-clause-hold c =
    let r = c.args.self.now in
    all_say _ _ _ (ready_view r) c.args.name.now c.holds.result c.first_of-group.result c.first_of.result _ (map ready_of c.deref.result.now) (map ready_of c.as_slice-texts.result.now) c.holds.ensures.same c.first_of-group.ensures.same (ap (map ready_of) c.deref.ensures.value) (ap (map ready_of) c.as_slice-texts.ensures.value) (ap length c.as_slice-texts.ensures.value ∙ sym (length-map r.texts.items ready_of)) c.holds.ensures.holds c.if-not-holds.false c.first_of-group.ensures.first c.first_of.ensures.first
