use Rattle.std.proofs.Common.{◌≡◌, ◌∙◌, ap, map, subst, sym}
use Rattle.std.specs.List.Sorted.{IsStrictlySortedBy}
use Rattle.list_facts.specs.Ascending.{text_cmp}
use Rattle.list_facts.specs.Texts.{texts}
use Rattle.nextest_binaries.specs.Asking.{TakesEach}
use Rattle.nextest_binaries.specs.Listers.{unasked}
use Rattle.test_select_rules.specs.BinaryView.{binary_view}
use Rattle.test_select_tests.specs.Choosing.{ids_of}
use Rattle.test_select_tests.specs.Plans.{PassesIn}
use Rattle.test_select_tests.specs.QuestionFilters.{question_view}
use Rattle.test_select_tests.proofs.TakingFacts.{blames_unlisted, memory_blames, memory_carries}
use Rattle.test_select_tests.proofs.asking.take_and_choose.Goals as goal

pub returns-in_err-ids : goal.returns-in_err-ids
returns-in_err-ids c = record {
  carries = memory_carries c.args.listings (PassesIn (question_view c.args.plan.now.filters)) (map binary_view c.args.plan.now.asked.items) _ c.from_residual.ensures.1;
  missing = memory_blames c.args.listings _ c.from_residual.ensures.1;
}

pub returns : goal.returns
returns c =
    let listings = c.args.listings in
    let ids = texts c.in_ok-ids.ids.items in
    let same : ids ≡ ids_of (map binary_view c.args.plan.now.asked.items) = c.in_ok-ids.ensures ∙ ap (λ bs. ids_of (map binary_view bs)) c.deref.ensures.value in
    let ascending : IsStrictlySortedBy text_cmp ids = subst (IsStrictlySortedBy text_cmp) (sym same) c.requires.apart in
    let takes : TakesEach listings ids c.take_each-taken.result c.take_each-taken.new.listings = subst (λ ns. TakesEach listings (texts ns) c.take_each-taken.result c.take_each-taken.new.listings) c.deref-2.ensures.value c.take_each-taken.ensures in
    record {
      carries = (takes.after, c.choose_from.ensures.carries (unasked listings) takes.after takes.lists);
      missing = blames_unlisted listings ids c.take_each-taken.result _ c.choose_from.result ascending takes c.choose_from.ensures.blames;
    }
