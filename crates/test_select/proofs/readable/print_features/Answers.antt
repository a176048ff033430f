use Rattle.std.proofs.Common.{◌≡◌, ap, flat_map, refl}
use Rattle.clap.specs.Words.{found_of, rows_of}
use Rattle.feature_account_making.specs.FeatureLines.{feature_line}
use Rattle.test_select_features.specs.Switching.{SwitchesOn}
use Rattle.test_select.specs.FeatureCommands.{PrintsFeatures}
use Rattle.test_select.specs.Printing.{never}
use Rattle.test_select.proofs.PrintingFacts.{question_ends, question_stops, refusal_prints, text_prints, unwritten_prints}
use Rattle.test_select.proofs.readable.print_features.Goals as goal

pub returns-in_err-question-clause-prints : goal.returns-in_err-question-clause-prints
returns-in_err-question-clause-prints g c =
    question_stops (rows_of (found_of c.args.asked.now)) _ c.named_files.ensures.named PrintsFeatures c.in_err-question.field-0.0 _ _ c.from_residual.ensures.1 c.in_err-question.ensures.reads

pub returns-in_err-on-clause-prints : goal.returns-in_err-on-clause-prints
returns-in_err-on-clause-prints g c =
    let q = c.in_ok-question.question in
    question_ends (rows_of (found_of c.args.asked.now)) _ c.named_files.ensures.named PrintsFeatures q _ _ _ c.in_ok-question.ensures.reads
    (refusal_prints (SwitchesOn q.record.value q.choice q.table) (λ on text. text ≡ flat_map feature_line on) never _ _ c.in_err-on.field-0.0 c.from_residual-in_err-on.ensures.1 c.in_err-on.ensures.on)

pub returns-in_err-write_features-clause-prints : goal.returns-in_err-write_features-clause-prints
returns-in_err-write_features-clause-prints g c =
    let q = c.in_ok-question.question in
    question_ends (rows_of (found_of c.args.asked.now)) _ c.named_files.ensures.named PrintsFeatures q _ _ _ c.in_ok-question.ensures.reads
    (unwritten_prints (SwitchesOn q.record.value q.choice q.table) (λ on text. text ≡ flat_map feature_line on) never c.in_ok-on.on c.in_ok-on.ensures.on _ (ap (flat_map feature_line) c.as_slice.ensures.value) _ _ c.in_err-write_features.field-0.0 _ c.from_residual-in_err-write_features.ensures.1 c.in_err-write_features.ensures.writes c.in_err-write_features.ensures.memory)

pub returns-clause-prints : goal.returns-clause-prints
returns-clause-prints g c =
    let q = c.in_ok-question.question in
    question_ends (rows_of (found_of c.args.asked.now)) _ c.named_files.ensures.named PrintsFeatures q _ _ _ c.in_ok-question.ensures.reads
    (text_prints (SwitchesOn q.record.value q.choice q.table) (λ on text. text ≡ flat_map feature_line on) never c.in_ok-on.on c.in_ok-on.ensures.on _ (ap (flat_map feature_line) c.as_slice.ensures.value) _ _ refl c.in_ok-write_features.ensures.writes)
