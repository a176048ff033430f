use Rattle.std.proofs.Common.{◌∙◌, ap, map}
use Rattle.guppy_package_table.specs.Tables.{TableValue, id_at}
use Rattle.guppy_package_graph.proofs.PlaceFacts.{ok_more}
use Rattle.guppy_package_graph.proofs.package_set.PackageSet.root_ids.Goals as goal

pub returns : goal.returns
returns c =
    let places = c.in_ok-places.places.items in
    let roots = c.in_ok-places.ensures in
    let ids = ap (map (id_at c.graph.result.now)) c.deref.ensures.value ∙ ap (λ (g : TableValue). map (id_at g) places) c.graph.ensures.graph in
    record { roots = ok_more c.ids_at.result (λ found is. (places, record { ascending = roots.ascending; each = roots.each }, is ∙ ids)) c.ids_at.ensures }
