use Rattle.std.proofs.Common.{◌≡◌, rules}
use Rattle.test_select_files.specs.Words.{names_of}
use Rattle.test_select_files.proofs.ReadingFacts.{choice_fails, question_read, table_fails}
use Rattle.test_select_files.proofs.inputs.feature_question.Goals as goal

pub returns-in_err-choice-clause-reads : goal.returns-in_err-choice-clause-reads
returns-in_err-choice-clause-reads g c =
    choice_fails (names_of c.args.names) _ c.in_err-choice.field-0.0 _ c.from_residual-in_err-choice.ensures.1 c.in_ok-record_in.ensures.same c.in_ok-record_in.ensures.reads c.in_err-choice.ensures.reads

pub returns-in_err-table-clause-reads : goal.returns-in_err-table-clause-reads
returns-in_err-table-clause-reads g c =
    table_fails (names_of c.args.names) _ _ c.in_err-table.field-0.0 _ c.from_residual-in_err-table.ensures.1 c.in_ok-record_in.ensures.same c.in_ok-choice.ensures.same c.in_ok-record_in.ensures.reads c.in_ok-choice.ensures.reads c.in_err-table.ensures.reads

pub returns-clause-reads : goal.returns-clause-reads
returns-clause-reads g c =
    let shared : c.in_ok-record.record.value ≡ c.in_ok-record_in.field-0 = search rules in
    question_read (names_of c.args.names) _ _ shared c.in_ok-record_in.ensures.same c.in_ok-choice.ensures.same c.in_ok-record_in.ensures.reads c.in_ok-choice.ensures.reads c.in_ok-table.ensures.reads
