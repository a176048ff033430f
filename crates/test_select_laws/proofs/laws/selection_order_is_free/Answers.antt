use Rattle.test_select_laws.proofs.OrderFacts.{order_is_free}
use Rattle.test_select_laws.proofs.laws.selection_order_is_free.Goals as goal

pub returns : goal.returns
returns c = record { free = order_is_free }
