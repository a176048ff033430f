use Rattle.std.proofs.Common.{◌≡◌, ◌∙◌, [], ◌↔◌, Contains, length, sym, subst, string_bytes}
use mathlib.Core.List.{map-id}
use Rattle.std.proofs.lemmas.Iterator.Adapters.{YieldsList-from_vec}
use Rattle.std.proofs.lemmas.Iterator.Consumers.{YieldsList-end}
use Rattle.std.proofs.lemmas.List.Sorted.{Contains-permutation, IsPermutation-map, IsPermutation-sym}
use Rattle.list_facts.specs.Texts.{texts}
use Rattle.workspace_record.specs.Records.{Text}
use Rattle.nextest_filter_evaluation.specs.Questions.{ready_view}
use Rattle.test_select_tests.specs.Kept.{Adds}
use Rattle.test_select_tests.specs.Passing.{IsPassing}
use Rattle.test_select_tests.specs.QuestionFilters.{IsReadyFor}
use Rattle.test_select_tests.proofs.ChoosingFacts.{one_name_more, passing_in_order}
use Rattle.test_select_tests.proofs.asking.passing_names.Goals as goal

pub loop-name-preserved : goal.loop-name-preserved
loop-name-preserved c =
    let was = c.loop-name.invariant in
    record {
      same = c.in_ok-push_if_passing.ensures.same ∙ was.same;
      added = λ q b is. one_name_more q b c.loop-name.yielded c.in-Some.name [] (texts c.loop-name.passing.items) (texts c.push_if_passing.new.passing.items) (was.added q b is) (c.in_ok-push_if_passing.ensures.added q b (subst (λ ps. IsReadyFor ps q b (ready_view c.args.ready.now)) (sym was.same) is));
    }

pub returns-then-names_ascend-clause-passing : goal.returns-then-names_ascend-clause-passing
returns-then-names_ascend-clause-passing c q b is =
    let size : c.into_iter-name-iterator.result.rest.len ≡ length c.args.names.items = cc in
    let first : c.into_iter-name-iterator.result.rest.items ≡ c.args.names.items = cc in
    let end = YieldsList-end (YieldsList-from_vec {s = c.into_iter-name-iterator.result} c.args.names.items first size) c.loop-name.yielded c.loop-name.name-iterator c.loop-name.yielded_by c.next.result c.next.new.self c.in-None.is c.next.ensures.steps in
    let all : c.loop-name.yielded ≡ c.args.names.items = sym (map-id c.loop-name.yielded) ∙ end.0 in
    let before = texts c.loop-name.passing.items in
    passing_in_order q b (texts c.args.names.items) before before (subst (λ ns. Adds (IsPassing q b (texts ns)) [] before) all (c.loop-name.invariant.added q b is)) (λ x. (λ h. h, λ h. h))

pub returns-clause-passing : goal.returns-clause-passing
returns-clause-passing c q b is =
    let size : c.into_iter-name-iterator.result.rest.len ≡ length c.args.names.items = cc in
    let first : c.into_iter-name-iterator.result.rest.items ≡ c.args.names.items = cc in
    let end = YieldsList-end (YieldsList-from_vec {s = c.into_iter-name-iterator.result} c.args.names.items first size) c.loop-name.yielded c.loop-name.name-iterator c.loop-name.yielded_by c.next.result c.next.new.self c.in-None.is c.next.ensures.steps in
    let all : c.loop-name.yielded ≡ c.args.names.items = sym (map-id c.loop-name.yielded) ∙ end.0 in
    let before = texts c.loop-name.passing.items in
    let after = texts c.sort.new.self.items in
    let moved = IsPermutation-map string_bytes c.loop-name.passing.items c.sort.new.self.items c.in_ok-sort.ensures.permutation in
    let same : (x : Text) → Contains after x ↔ Contains before x = λ x. (
      λ h. Contains-permutation after before x (IsPermutation-sym before after moved) h,
      λ h. Contains-permutation before after x moved h,
    ) in
    passing_in_order q b (texts c.args.names.items) before after (subst (λ ns. Adds (IsPassing q b (texts ns)) [] before) all (c.loop-name.invariant.added q b is)) same
