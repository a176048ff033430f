use Rattle.std.proofs.Common.{◌∙◌, ◌∷◌, [], ◌++◌, ap, codes, map}
use Rattle.nextest_filter_evaluation.specs.Compiled.{compiled_of}
use Rattle.test_select_tests.specs.QuestionFilters.{question_view}
use Rattle.test_select_tests.proofs.LendingFacts.{parts_of}
use Rattle.test_select_tests.proofs.lending.lent_filters.Goals as goal

pub returns : goal.returns
returns c =
    let q = question_view c.args.filters.now in
    let groups = c.groups-groups.result.now in
    let names = c.in_ok-group_names.ensures ∙ ap (λ ns. ns ++ codes "@global" ∷ []) (parts_of (λ g. g.0) groups q.filters.groups c.groups-groups.ensures.groups) in
    let filters = c.in_ok-group_filters.ensures ∙ parts_of (λ g. g.1) groups q.filters.groups c.groups-groups.ensures.groups in
    let texts = c.in_ok-texts.ensures ∙ ap (map compiled_of) c.deref.ensures.value in
    record {
      lent = λ i. record { default = c.eval_context-cx.ensures.default i; names = names i; groups = filters i; texts = texts i };
    }
