use Rattle.test_select_features.proofs.ServedFacts.{are_on, extras_known}
use Rattle.test_select_features.proofs.switching.features_on_in.Goals as goal

pub resolved_features-requires-clause-known : goal.resolved_features-requires-clause-known
resolved_features-requires-clause-known c =
    rw c.record.ensures.value (extras_known c.args.checked.now c.args.choice.now c.requires.known)

pub returns : goal.returns
returns c = record {
  on = are_on c.args.checked.now _ c.args.choice.now c.args.table.now c.resolved_features.result c.record.ensures.value (record { checked = c.record.ensures.checked; known = c.requires.known }) c.resolved_features.ensures.on c.resolved_features.ensures.ascending;
}
