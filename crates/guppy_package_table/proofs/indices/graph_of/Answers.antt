use Rattle.std.proofs.Common.{◌<◌, length, subst, sym}
use Rattle.std.proofs.lemmas.List.Elements.{All-map}
use Rattle.numbered_graph.specs.Links.{AreWithin}
use Rattle.guppy_package_table.specs.Tables.{link_between}
use Rattle.guppy_package_table.proofs.indices.graph_of.Goals as goal

pub new-requires : goal.new-requires
new-requires c =
    let keys = c.args.ids.now.keys in
    subst (λ n. AreWithin n c.in_ok-numbered.numbered.items) (sym c.len.ensures.len)
    (subst (AreWithin (length keys)) (sym c.in_ok-numbered.ensures) (All-map (λ l. (l.from < length keys) × (l.to < length keys)) (link_between keys) c.args.links.now c.requires))
