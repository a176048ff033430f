use Rattle.test_select.proofs.ChangeFacts.{changes_needed}
use Rattle.test_select.proofs.changes.changed_among.Goals as goal

pub returns : goal.returns
returns c = record { changes = (c.graph.result.now, c.graph.ensures.declared, changes_needed c.graph.result.now _ _ _ _ _ c.in_ok-query_workspace.ensures.query c.in_ok-needed.ensures.reached c.changed_packages.ensures.changes) }
