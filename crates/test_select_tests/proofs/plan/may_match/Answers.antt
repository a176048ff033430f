use Rattle.std.proofs.Common.{◌≡◌, ◌∙◌, ◌↔◌, IfOk, IsTrue, Contains, refl, sym, ap, subst, true≢false}
use Rattle.workspace_record.specs.Features.{FeatureValue}
use Rattle.test_select_rules.specs.OnLines.{HasRequired}
use Rattle.test_select_checks.proofs.ContextFacts.{if_ok_so}
use Rattle.nextest_binaries.specs.Queries as asked
use Rattle.test_select_tests.specs.QuestionFilters.{MayPass, question_view}
use Rattle.test_select_tests.proofs.plan.may_match.Goals as goal

pub returns-then-not-is_available : goal.returns-then-not-is_available
returns-then-not-is_available c =
    let on : FeatureValue → Type 0 = λ f. Contains c.args.on.now f in
    let p = c.args.binary.now.row.now.id in
    let target = c.args.binary.now.target.now in
    let id : c.as_str.result.now ≡ p = c.as_str.ensures.value ∙ ap (λ r. r.id) c.row.view_is in
    let available : IsTrue c.is_available.result ↔ HasRequired on p target = subst (λ i. IsTrue c.is_available.result ↔ HasRequired on i target) id c.is_available.ensures in
    (λ t. absurd (true≢false (sym t)), λ h. absurd (true≢false (sym (available.1 h.0) ∙ c.if-not-is_available.true)))

pub returns-in-Available : goal.returns-in-Available
returns-in-Available c =
    let on : FeatureValue → Type 0 = λ f. Contains c.args.on.now f in
    let p = c.args.binary.now.row.now.id in
    let target = c.args.binary.now.target.now in
    let id : c.as_str.result.now ≡ p = c.as_str.ensures.value ∙ ap (λ r. r.id) c.row.view_is in
    let available : IsTrue c.is_available.result ↔ HasRequired on p target = subst (λ i. IsTrue c.is_available.result ↔ HasRequired on i target) id c.is_available.ensures in
    rw c.in-Available.is (λ t. (available.0 c.if-not-is_available.false, tt), λ h. refl)

pub returns-in-LetThrough : goal.returns-in-LetThrough
returns-in-LetThrough c =
    let on : FeatureValue → Type 0 = λ f. Contains c.args.on.now f in
    let p = c.args.binary.now.row.now.id in
    let target = c.args.binary.now.target.now in
    let id : c.as_str.result.now ≡ p = c.as_str.ensures.value ∙ ap (λ r. r.id) c.row.view_is in
    let available : IsTrue c.is_available.result ↔ HasRequired on p target = subst (λ i. IsTrue c.is_available.result ↔ HasRequired on i target) id c.is_available.ensures in
    let passes : asked.Binary → Type 0 = λ b. IfOk c.may_pass.result (λ r. IsTrue r ↔ MayPass (question_view c.args.filters.now) b) in
    rw c.in-LetThrough.is (if_ok_so _ _ c.may_pass.result (λ r wanted. (λ t. (available.0 c.if-not-is_available.false, wanted.0 t), λ h. wanted.1 h.1)) (subst passes c.query.ensures.asked c.may_pass.ensures))
