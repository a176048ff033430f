use Rattle.std.proofs.Common.{◌≡◌, List, ap, map, refl, rules}
use Rattle.clap.specs.Words.{found_of, rows_of}
use Rattle.feature_account_making.specs.RuleLines.{rule_lines}
use Rattle.feature_account_making.specs.SourceViews.{sourced_view}
use Rattle.feature_account_making.specs.declared.sourced_rule.SourcedRule.{SourcedRule}
use Rattle.test_select.specs.FeatureCommands.{PrintsRules}
use Rattle.test_select.specs.Printing.{never}
use Rattle.test_select.specs.Runs.{ListsRules}
use Rattle.test_select.proofs.PrintingFacts.{question_ends, question_stops, refusal_prints, text_prints, unwritten_prints}
use Rattle.test_select.proofs.readable.print_rules.Goals as goal

pub returns-in_err-question-clause-prints : goal.returns-in_err-question-clause-prints
returns-in_err-question-clause-prints g c =
    question_stops (rows_of (found_of c.args.asked.now)) _ c.named_files.ensures.named PrintsRules c.in_err-question.field-0.0 _ _ c.from_residual.ensures.1 c.in_err-question.ensures.reads

pub returns-in_err-rules-clause-prints : goal.returns-in_err-rules-clause-prints
returns-in_err-rules-clause-prints g c =
    let q = c.in_ok-question.question in
    question_ends (rows_of (found_of c.args.asked.now)) _ c.named_files.ensures.named PrintsRules q _ _ _ c.in_ok-question.ensures.reads
    (refusal_prints (ListsRules q) (λ listed text. text ≡ rule_lines 0 (map sourced_view listed.items)) never _ _ c.in_err-rules.field-0.0 c.from_residual-in_err-rules.ensures.1 c.in_err-rules.ensures)

pub returns-in_err-write_rules-clause-prints : goal.returns-in_err-write_rules-clause-prints
returns-in_err-write_rules-clause-prints g c =
    let q = c.in_ok-question.question in
    let lent : c.deref.result.now ≡ c.in_ok-rules.rules.items = search rules in
    question_ends (rows_of (found_of c.args.asked.now)) _ c.named_files.ensures.named PrintsRules q _ _ _ c.in_ok-question.ensures.reads
    (unwritten_prints (ListsRules q) (λ listed text. text ≡ rule_lines 0 (map sourced_view listed.items)) never c.in_ok-rules.rules c.in_ok-rules.ensures _ (ap (λ (l : List SourcedRule). rule_lines 0 (map sourced_view l)) lent) _ _ c.in_err-write_rules.field-0.0 _ c.from_residual-in_err-write_rules.ensures.1 c.in_err-write_rules.ensures.writes c.in_err-write_rules.ensures.memory)

pub returns-clause-prints : goal.returns-clause-prints
returns-clause-prints g c =
    let q = c.in_ok-question.question in
    let lent : c.deref.result.now ≡ c.in_ok-rules.rules.items = search rules in
    question_ends (rows_of (found_of c.args.asked.now)) _ c.named_files.ensures.named PrintsRules q _ _ _ c.in_ok-question.ensures.reads
    (text_prints (ListsRules q) (λ listed text. text ≡ rule_lines 0 (map sourced_view listed.items)) never c.in_ok-rules.rules c.in_ok-rules.ensures _ (ap (λ (l : List SourcedRule). rule_lines 0 (map sourced_view l)) lent) _ _ refl c.in_ok-write_rules.ensures.writes)
