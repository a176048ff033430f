use Rattle.test_select_checks.proofs.ContextFacts.{if_ok_so}
use Rattle.test_select_features.proofs.ordering.package_order_in.Goals as goal

pub returns : goal.returns
returns c = record {
  order = if_ok_so _ _ c.dependency_order.result (λ ids order. record {
    on = c.in_ok-on.on;
    are_on = c.in_ok-on.ensures.on;
    ordered = record { declared = c.graph.result.now; is_declared = c.graph.ensures.declared; order = order };
  }) c.dependency_order.ensures.order;
}
