use Rattle.std.proofs.Common.{◌≡◌, ◌∙◌, ◌⊎◌, inl, inr, ⊎_elim, [], Bor, Global, List, Vec, ap, arith, false, map, refl, subst}
use Rattle.std.specs.List.{list_any}
use Rattle.list_facts.proofs.Quantifiers.{list_any-map}
use Rattle.nextest_filter_evaluation.specs.Compiled.{compiled_of, is_group}
use Rattle.nextest_filter_evaluation.specs.Formulas.{has_leaf}
use Rattle.nextest_filter_evaluation.specs.declared.compiled_expr.CompiledExpr.{CompiledExpr}
use Rattle.nextest_filter_evaluation.specs.Ready.{ready_of}
use Rattle.nextest_filter_evaluation.specs.declared.ready_expr.ReadyExpr.{ReadyExpr}
use Rattle.nextest_binaries.specs.Queries.{binary_of}
use Rattle.nextest_filter_evaluation.specs.Questions.{lent_of, ready_view}
use Rattle.nextest_filter_evaluation.proofs.QuestionFacts.{answers_either}
use Rattle.nextest_filter_evaluation.proofs.ready_filters.ReadyFilters.new.Goals as goal

pub returns : goal.returns
returns c =
    let unasked = c.new-unasked.result in
    let ungrouped = c.new-ungrouped.result in
    let grouped = c.new-grouped.result in
    let made = ready_view (record { default = c.in_ok-default.default; groups = c.in_ok-groups.groups; texts = c.in_ok-texts.texts }) in
    let left = ready_view (record { default = c.in_ok-default.default; groups = c.asked_groups-kept.result; texts = c.in_ok-texts.texts }) in
    let filters = lent_of c.args.filters.now in
    let kept : (left.groups ≡ made.groups) ⊎ ((left.groups ≡ []) × (list_any (has_leaf is_group) filters.texts ≡ false)) =
    ⊎_elim (λ e. inl (ap (λ (v : Vec ReadyExpr Global). map ready_of v.items) e)) (λ e. inr (ap (map ready_of) e.0, list_any-map (has_leaf is_group) (λ (t : Bor CompiledExpr). compiled_of t.now) c.args.filters.now.texts.items ∙ subst (λ (ts : List (Bor CompiledExpr)). list_any (λ t. has_leaf is_group (compiled_of t.now)) ts ≡ false) c.deref-4.ensures.value e.1)) c.asked_groups-kept.ensures in
    record {
      ready = λ name answer says. answers_either (binary_of c.args.binary_query) name filters made unasked ungrouped grouped c.in_ok-default.at c.in_ok-groups.at (omega (arith, c.in_ok-default.ensures.next)) (rw c.deref.ensures.value at c.in_ok-groups.ensures.next) (ap binary_of c.new-unasked.ensures.binary) (ap binary_of c.new-ungrouped.ensures.binary) (ap binary_of c.new-grouped.ensures.binary) (ap (map (λ t. t.now)) c.new-unasked.ensures.names) (ap (map (λ t. t.now)) c.new-ungrouped.ensures.names) (ap (map (λ t. t.now)) (c.new-grouped.ensures.names ∙ c.deref-2.ensures.value)) c.new-unasked.ensures.default c.new-ungrouped.ensures.default c.new-grouped.ensures.default c.in_ok-default.ensures.ready (rw c.deref.ensures.value at c.in_ok-groups.ensures.ready) (rw c.deref-3.ensures.value at c.in_ok-texts.ensures.ready) left refl refl kept answer says;
    }
