use Rattle.std.proofs.Common.{◌≡◌, ℕ, None, Ok, Option, Some, Vec, ap, refl, rules, subst, sym}
use Rattle.std.specs.Global.{Global}
use Rattle.test_select_features.specs.Explaining.{Explains}
use Rattle.test_select.specs.AccountCommands.{explained_text, is_not_on, lines_of, not_on}
use Rattle.test_select.proofs.PrintingFacts.{beginning_prints, explanation_as_numbers, explanation_for_people, shown_prints, text_prints, unwritten_prints}
use Rattle.test_select.proofs.explanations.print_explanation_of.Goals as goal

pub returns-in-Some-clause-prints : goal.returns-in-Some-clause-prints
returns-in-Some-clause-prints g c =
    let q = c.args.question.now in
    let entries = c.in-Some.entries in
    let named : c.in_ok-entries.field-0 ≡ Some entries = search rules in
    shown_prints (Explains q.record.value q.choice q.table c.args.feature.now) (λ answer text. text ≡ explained_text q c.args.readable c.args.feature.now answer) is_not_on (Some entries)
    (subst (λ (o : Option (Vec ℕ Global)). Explains q.record.value q.choice q.table c.args.feature.now (Ok o)) named c.in_ok-entries.ensures.answer)
    (lines_of q entries.items) (explanation_for_people q entries.items c.args.feature.now c.args.readable c.if-readable.true) _ _ refl _ (lines_of q c.deref.result.now) (sym (ap (lines_of q) c.deref.ensures.value)) c.print_entries.ensures.prints

pub returns-in_err-write_explanation-in-Some-2-clause-prints : goal.returns-in_err-write_explanation-in-Some-2-clause-prints
returns-in_err-write_explanation-in-Some-2-clause-prints g c =
    let q = c.args.question.now in
    let entries = c.in-Some.entries in
    let named : c.in_ok-entries.field-0 ≡ Some entries = search rules in
    unwritten_prints (Explains q.record.value q.choice q.table c.args.feature.now) (λ answer text. text ≡ explained_text q c.args.readable c.args.feature.now answer) is_not_on (Some entries)
    (subst (λ (o : Option (Vec ℕ Global)). Explains q.record.value q.choice q.table c.args.feature.now (Ok o)) named c.in_ok-entries.ensures.answer)
    _ (explanation_as_numbers q entries.items c.args.feature.now _ c.args.readable c.deref-in-Some-2.ensures.value c.if-readable.false) _ _ c.in_err-write_explanation-in-Some-2.field-0.0 _ c.from_residual-in_err-write_explanation-in-Some-2.ensures.1 c.in_err-write_explanation-in-Some-2.ensures.writes c.in_err-write_explanation-in-Some-2.ensures.memory

pub returns-in_ok-write_explanation-in-Some-2-clause-prints : goal.returns-in_ok-write_explanation-in-Some-2-clause-prints
returns-in_ok-write_explanation-in-Some-2-clause-prints g c =
    let q = c.args.question.now in
    let entries = c.in-Some.entries in
    let named : c.in_ok-entries.field-0 ≡ Some entries = search rules in
    text_prints (Explains q.record.value q.choice q.table c.args.feature.now) (λ answer text. text ≡ explained_text q c.args.readable c.args.feature.now answer) is_not_on (Some entries)
    (subst (λ (o : Option (Vec ℕ Global)). Explains q.record.value q.choice q.table c.args.feature.now (Ok o)) named c.in_ok-entries.ensures.answer)
    _ (explanation_as_numbers q entries.items c.args.feature.now _ c.args.readable c.deref-in-Some-2.ensures.value c.if-readable.false) _ _ refl c.in_ok-write_explanation-in-Some-2.ensures.writes

pub returns-in_err-write_out-in-None-clause-prints : goal.returns-in_err-write_out-in-None-clause-prints
returns-in_err-write_out-in-None-clause-prints g c =
    let q = c.args.question.now in
    let none : c.in_ok-entries.field-0 ≡ None = search rules in
    beginning_prints (Explains q.record.value q.choice q.table c.args.feature.now) (λ answer text. text ≡ explained_text q c.args.readable c.args.feature.now answer) is_not_on None
    (subst (λ (o : Option (Vec ℕ Global)). Explains q.record.value q.choice q.table c.args.feature.now (Ok o)) none c.in_ok-entries.ensures.answer)
    not_on refl _ _ _ c.from_residual-in_err-write_out-in-None.ensures.1 c.in_err-write_out-in-None.ensures.writes
