use Rattle.std.proofs.Common.{◌≡◌, Ok, Result, refl, rules}
use Rattle.workspace_record.specs.Records.{Text}
use Rattle.test_select_checks.specs.declared.select_error.SelectError.{SelectError}
use Rattle.test_select.specs.AccountCommands.{lines_of}
use Rattle.test_select.specs.Printing.{never}
use Rattle.test_select.proofs.PrintingFacts.{entries_shown, memory_prints, text_prints, unwritten_prints}
use Rattle.test_select.proofs.readable.print_entries.Goals as goal

pub returns-in_err-rules-clause-prints : goal.returns-in_err-rules-clause-prints
returns-in_err-rules-clause-prints g c =
    memory_prints (λ (given : Result (Unit {0}) SelectError). given ≡ Ok (tt {0})) (λ (nothing : Unit {0}) (text : Text). text ≡ lines_of c.args.question.now c.args.entries.now) never _ _ c.from_residual.ensures.1

pub returns-in_err-write_entries-clause-prints : goal.returns-in_err-write_entries-clause-prints
returns-in_err-write_entries-clause-prints g c =
    let q = c.args.question.now in
    let lent : c.deref.result.now ≡ c.in_ok-rules.rules.items = search rules in
    let shared : c.as_ref-record.result.now ≡ q.record.value = search rules in
    unwritten_prints (λ (given : Result (Unit {0}) SelectError). given ≡ Ok (tt {0})) (λ (nothing : Unit {0}) (text : Text). text ≡ lines_of q c.args.entries.now) never (tt {0}) refl _
    (entries_shown q _ _ _ _ lent c.in_ok-rules.ensures.sourced shared)
    _ _ c.in_err-write_entries.field-0.0 _ c.from_residual-in_err-write_entries.ensures.1 c.in_err-write_entries.ensures.writes c.in_err-write_entries.ensures.memory

pub returns-clause-prints : goal.returns-clause-prints
returns-clause-prints g c =
    let q = c.args.question.now in
    let lent : c.deref.result.now ≡ c.in_ok-rules.rules.items = search rules in
    let shared : c.as_ref-record.result.now ≡ q.record.value = search rules in
    text_prints (λ (given : Result (Unit {0}) SelectError). given ≡ Ok (tt {0})) (λ (nothing : Unit {0}) (text : Text). text ≡ lines_of q c.args.entries.now) never (tt {0}) refl _
    (entries_shown q _ _ _ _ lent c.in_ok-rules.ensures.sourced shared)
    _ _ refl c.in_ok-write_entries.ensures.writes
