use Rattle.list_facts.proofs.Lists.{both_more}
use Rattle.guppy_package_table.specs.Tables.{id_at}
use Rattle.guppy_package_graph.proofs.set_parts.ids_at.Goals as goal

pub loop-place-preserved : goal.loop-place-preserved
loop-place-preserved c =
    both_more (λ id. id.now) (id_at c.args.graph.now) c.loop-place.ids.items c.push.new.self.items c.id_at.result c.args.places.now c.loop-place.place-index 0 c.loop-place-test.true c.in_ok-push.ensures.items c.id_at.ensures c.loop-place.invariant
