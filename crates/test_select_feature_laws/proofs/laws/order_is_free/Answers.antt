use Rattle.test_select_feature_laws.specs.Laws.{OrderIsFree}
use Rattle.test_select_feature_laws.proofs.KeptFacts.{rows_kept}
use Rattle.test_select_feature_laws.proofs.OrderFacts.{stays_on, turned}
use Rattle.test_select_feature_laws.proofs.laws.order_is_free.Goals as goal

free : OrderIsFree
free w v choice table f kept other same = (
  stays_on w v (rows_kept w kept).ids_apart (rows_kept v other).ids_apart same choice table f,
  stays_on v w (rows_kept v other).ids_apart (rows_kept w kept).ids_apart (turned w v same) choice table f,
)

pub returns : goal.returns
returns c = record { free = free }
