use Rattle.std.proofs.Common.{◌≡◌, length, Contains, map, subst, sym, ◌∙◌, ap, true≢false}
use mathlib.Core.List.{map-id}
use Rattle.std.proofs.lemmas.Iterator.Adapters.{YieldsList-from_vec}
use Rattle.std.proofs.lemmas.Iterator.Consumers.{YieldsList-end}
use Rattle.test_select_rules.specs.Binaries.{Binary}
use Rattle.test_select_rules.specs.BinaryView.{binary_view}
use Rattle.test_select_tests.specs.Kept.{AreThose}
use Rattle.test_select_tests.specs.Plans.{MayMatch}
use Rattle.test_select_tests.specs.QuestionFilters.{question_view}
use Rattle.test_select_tests.proofs.KeptFacts.{those_map_one, those_map_off}
use Rattle.test_select_tests.proofs.plan.binaries_that_may_match.Goals as goal

pub loop-binary-preserved-in-Continue-branch-2 : goal.loop-binary-preserved-in-Continue-branch-2
loop-binary-preserved-in-Continue-branch-2 c =
    let may : Binary → Type 0 = MayMatch c.args.asks (λ f. Contains c.args.on.now f) (question_view c.args.filters.now) in
    those_map_one may binary_view c.loop-binary.yielded c.loop-binary.kept.items c.push.new.self.items c.in-Some.binary c.loop-binary.invariant (c.in_ok-may_match.ensures.0 c.if-branch.true) c.in_ok-push.ensures.items

pub loop-binary-preserved : goal.loop-binary-preserved
loop-binary-preserved c =
    let may : Binary → Type 0 = MayMatch c.args.asks (λ f. Contains c.args.on.now f) (question_view c.args.filters.now) in
    those_map_off may binary_view c.loop-binary.yielded c.loop-binary.kept.items c.in-Some.binary c.loop-binary.invariant (λ h. true≢false (sym (c.in_ok-may_match.ensures.1 h) ∙ c.if-branch.false))

pub returns : goal.returns
returns c =
    let may : Binary → Type 0 = MayMatch c.args.asks (λ f. Contains c.args.on.now f) (question_view c.args.filters.now) in
    let size : c.into_iter-binary-iterator.result.rest.len ≡ length c.args.all.items = cc in
    let first : c.into_iter-binary-iterator.result.rest.items ≡ c.args.all.items = cc in
    let end = YieldsList-end (YieldsList-from_vec {s = c.into_iter-binary-iterator.result} c.args.all.items first size) c.loop-binary.yielded c.loop-binary.binary-iterator c.loop-binary.yielded_by c.next.result c.next.new.self c.in-None.is c.next.ensures.steps in
    let all : map binary_view c.loop-binary.yielded ≡ map binary_view c.args.all.items = ap (map binary_view) (sym (map-id c.loop-binary.yielded) ∙ end.0) in
    subst (λ bs. AreThose may bs (map binary_view c.loop-binary.kept.items)) all c.loop-binary.invariant
