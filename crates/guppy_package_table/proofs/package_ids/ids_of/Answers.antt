use Rattle.std.proofs.Common.{rules}
use Rattle.guppy_package_table.proofs.IdFacts.{ids_more}
use Rattle.guppy_package_table.proofs.package_ids.ids_of.Goals as goal

pub loop-row-preserved : goal.loop-row-preserved
loop-row-preserved c = ids_more (λ p. p.id) c.args.packages.now c.loop-row.row-index c.row-item.result c.loop-row-test.true c.requires c.loop-row.ids.keys c.insert_id.new.ids.keys c.loop-row.invariant (search rules)
