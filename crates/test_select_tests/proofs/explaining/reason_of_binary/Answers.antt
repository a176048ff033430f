use Rattle.std.proofs.Common.{◌≡◌, ◌∙◌, ◌↔◌, IsTrue, subst, sym, true, true≢false}
use Rattle.nextest_filter_evaluation.specs.Meaning.{DefaultGives}
use Rattle.nextest_binaries.specs.Queries as asked
use Rattle.nextest_binaries.specs.Queries.{binary_of}
use Rattle.test_select_tests.specs.QuestionFilters.{SomeMayPass, question_view}
use Rattle.test_select_rules.specs.BinaryView.{binary_view}
use Rattle.test_select_rules.specs.Asked.{binary_asked}
use Rattle.test_select_tests.proofs.explaining.reason_of_binary.Goals as goal

pub returns-then-not-branch : goal.returns-then-not-branch
returns-then-not-branch c =
    let q = question_view c.args.filters.now in
    let b = binary_asked (binary_view c.args.binary.now) in
    let is : binary_of c.query-query.result ≡ b = c.query-query.ensures.asked in
    let says : IsTrue c.in_ok-default_may_pass.field-0 ↔ DefaultGives q.filters.default b true = subst (λ (x : asked.Binary). IsTrue c.in_ok-default_may_pass.field-0 ↔ DefaultGives q.filters.default x true) is c.in_ok-default_may_pass.ensures in
    λ d. true≢false (sym (says.1 d) ∙ c.if-not-branch.true)

pub returns-then-not-branch-2 : goal.returns-then-not-branch-2
returns-then-not-branch-2 c =
    let q = question_view c.args.filters.now in
    let b = binary_asked (binary_view c.args.binary.now) in
    let is : binary_of c.query-query.result ≡ b = c.query-query.ensures.asked in
    let says : IsTrue c.in_ok-default_may_pass.field-0 ↔ DefaultGives q.filters.default b true = subst (λ (x : asked.Binary). IsTrue c.in_ok-default_may_pass.field-0 ↔ DefaultGives q.filters.default x true) is c.in_ok-default_may_pass.ensures in
    let some : IsTrue c.in_ok-some_may_pass.field-0 ↔ SomeMayPass q.filters.default q.texts b = subst (λ (x : asked.Binary). IsTrue c.in_ok-some_may_pass.field-0 ↔ SomeMayPass q.filters.default q.texts x) is c.in_ok-some_may_pass.ensures in
    (says.0 c.if-not-branch.false, λ w. true≢false (sym (some.1 w) ∙ c.if-not-branch-2.true))

pub returns : goal.returns
returns c =
    let q = question_view c.args.filters.now in
    let b = binary_asked (binary_view c.args.binary.now) in
    let is : binary_of c.query-query.result ≡ b = c.query-query.ensures.asked in
    let says : IsTrue c.in_ok-default_may_pass.field-0 ↔ DefaultGives q.filters.default b true = subst (λ (x : asked.Binary). IsTrue c.in_ok-default_may_pass.field-0 ↔ DefaultGives q.filters.default x true) is c.in_ok-default_may_pass.ensures in
    let some : IsTrue c.in_ok-some_may_pass.field-0 ↔ SomeMayPass q.filters.default q.texts b = subst (λ (x : asked.Binary). IsTrue c.in_ok-some_may_pass.field-0 ↔ SomeMayPass q.filters.default q.texts x) is c.in_ok-some_may_pass.ensures in
    (says.0 c.if-not-branch.false, some.0 c.if-not-branch-2.false)
