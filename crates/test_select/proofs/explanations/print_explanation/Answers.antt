use Rattle.std.proofs.Common.{◌≡◌, Bool, codes, subst}
use Rattle.clap.specs.Words.{found_of, rows_of}
use Rattle.workspace_record.specs.Features.{FeatureValue}
use Rattle.test_select_features.specs.Explaining.{Explains}
use Rattle.test_select_files.specs.Words.{is_given}
use Rattle.test_select.specs.AccountCommands.{PrintsExplanation, explained_text, feature_named, is_not_on}
use Rattle.test_select.proofs.PrintingFacts.{is_feature_named, memory_prints, question_ends, question_stops}
use Rattle.test_select.proofs.explanations.print_explanation.Goals as goal

pub returns-in_err-question-clause-prints : goal.returns-in_err-question-clause-prints
returns-in_err-question-clause-prints g c =
    let words = rows_of (found_of c.args.asked.now) in
    question_stops words _ c.named_files.ensures.named (PrintsExplanation (is_given (codes "readable") words) (feature_named words)) c.in_err-question.field-0.0 _ _ c.from_residual.ensures.1 c.in_err-question.ensures.reads

pub returns-in_err-feature-clause-prints : goal.returns-in_err-feature-clause-prints
returns-in_err-feature-clause-prints g c =
    let words = rows_of (found_of c.args.asked.now) in
    let q = c.in_ok-question.question in
    question_ends words _ c.named_files.ensures.named (PrintsExplanation (is_given (codes "readable") words) (feature_named words)) q _ _ _ c.in_ok-question.ensures.reads
    (memory_prints (Explains q.record.value q.choice q.table (feature_named words)) (λ answer text. text ≡ explained_text q (is_given (codes "readable") words) (feature_named words) answer) is_not_on _ _ c.from_residual-in_err-feature.ensures.1)

pub returns-clause-prints : goal.returns-clause-prints
returns-clause-prints g c =
    let words = rows_of (found_of c.args.asked.now) in
    let q = c.in_ok-question.question in
    let named = is_feature_named words _ _ _ c.in_ok-feature.ensures.named c.required.ensures.value c.required-2.ensures.value in
    question_ends words _ c.named_files.ensures.named (PrintsExplanation (is_given (codes "readable") words) (feature_named words)) q _ _ _ c.in_ok-question.ensures.reads
    (subst (λ (readable : Bool). PrintsExplanation readable (feature_named words) q c.print_explanation_of.result (g.O.Write.contents c.args.out.now) (g.O.Write.contents c.print_explanation_of.new.out)) c.is_given.ensures.given
    (subst (λ (goal : FeatureValue). PrintsExplanation c.is_given.result goal q c.print_explanation_of.result (g.O.Write.contents c.args.out.now) (g.O.Write.contents c.print_explanation_of.new.out)) named c.print_explanation_of.ensures.prints))
