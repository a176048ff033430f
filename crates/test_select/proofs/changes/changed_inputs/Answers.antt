use Rattle.clap.specs.Words.{found_of, rows_of}
use Rattle.test_select.proofs.ChangeFacts.{changes_read, paths_fail, record_fails}
use Rattle.test_select.proofs.changes.changed_inputs.Goals as goal

pub returns-in_err-workspace-clause-reads : goal.returns-in_err-workspace-clause-reads
returns-in_err-workspace-clause-reads g c =
    record_fails (rows_of (found_of c.args.asked.now)) _ c.required.ensures.value c.in_err-workspace.field-0.0 _ c.from_residual.ensures.1 c.in_err-workspace.ensures.reads

pub returns-in_err-listed-clause-reads : goal.returns-in_err-listed-clause-reads
returns-in_err-listed-clause-reads g c =
    paths_fail (rows_of (found_of c.args.asked.now)) _ c.required.ensures.value _ c.optional.ensures.value c.in_ok-workspace.workspace c.in_err-listed.field-0.0 _ c.from_residual-in_err-listed.ensures.1 c.in_ok-workspace.ensures.same c.in_ok-workspace.ensures.reads c.in_err-listed.ensures.reads

pub returns-clause-reads : goal.returns-clause-reads
returns-clause-reads g c =
    changes_read (rows_of (found_of c.args.asked.now)) _ c.required.ensures.value _ c.optional.ensures.value c.in_ok-workspace.workspace c.in_ok-listed.listed c.in_ok-workspace.ensures.same c.in_ok-workspace.ensures.reads c.in_ok-listed.ensures.reads
