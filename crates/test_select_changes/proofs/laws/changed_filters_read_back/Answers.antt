use Rattle.test_select_changes.proofs.PrintableFacts as facts
use Rattle.test_select_changes.proofs.laws.changed_filters_read_back.Goals as goal

pub returns : goal.returns
returns c = facts.changed_filters_read_back
