use Rattle.nextest_filtering.proofs.ContextFacts.{context_as}
use Rattle.nextest_filtering.proofs.parse_context.ParseContext.new.Goals as goal

pub returns-clause-members : goal.returns-clause-members
returns-clause-members c = context_as _ _ c.in_ok-members.members c.in_ok-names.names _ c.in_ok-members.ensures.members c.in_ok-names.ensures
