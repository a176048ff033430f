use Rattle.std.proofs.Common.{map}
use Rattle.guppy_feature_demands.specs.NamedRows.{named_view, same_name_equivalence}
use Rattle.guppy_feature_demands.proofs.FirstFacts.{first_step, inserted_seen}
use Rattle.guppy_feature_demands.proofs.named_entries.named_entries.Goals as goal

pub loop-row-preserved : goal.loop-row-preserved
loop-row-preserved c = first_step same_name_equivalence c.args.features.now c.loop-row.row-index c.row-item.result c.loop-row-test.true (map named_view c.loop-row.set.keys) (map named_view c.insert.new.self.keys) c.loop-row.invariant c.row-item.is (inserted_seen same_name_equivalence named_view c.loop-row.set.keys c.insert.new.self.keys _ c.in_ok-insert.ensures.keys)
