use Rattle.test_select_checks.proofs.ContextFacts.{context_needed, if_ok_so}
use Rattle.test_select_checks.proofs.graph.filter_context.Goals as goal

pub returns-clause-context : goal.returns-clause-context
returns-clause-context c =
    if_ok_so _ _ _ (λ cx is. context_needed c.args.declared.now c.args.followed.now c.in_ok-query.query c.in_ok-needed.needed cx c.in_ok-query.ensures.query c.in_ok-needed.ensures.reached is) c.with_features.ensures.packages
