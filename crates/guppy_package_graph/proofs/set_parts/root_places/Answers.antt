use Rattle.std.proofs.Common.{◌≡◌, ◌∙◌, ◌↔◌, Contains, IsTrue, ap, subst}
use Rattle.numbered_graph.specs.Graphs.{GraphValue}
use Rattle.numbered_graph.specs.Roots.{IsRoot}
use Rattle.numbered_graph.specs.Sets.{has}
use Rattle.guppy_package_table.specs.Tables.{numbered_links}
use Rattle.guppy_package_graph.specs.Queries.{places_of}
use Rattle.guppy_package_graph.proofs.PlaceFacts.{ok_more}
use Rattle.guppy_package_graph.proofs.set_parts.root_places.Goals as goal

pub returns-clause-each : goal.returns-clause-each
returns-clause-each c =
    let g = c.args.set.now.graph in
    let set = c.args.set.now.included in
    let graph : c.graph-2.result.now ≡ places_of g = c.graph-2.ensures ∙ ap places_of (c.table.ensures ∙ c.graph.ensures.graph) in
    ok_more c.root_nodes.result (λ roots each v.
    subst (λ d. Contains roots.items v ↔ (IsTrue (has set v) × IsRoot d (numbered_links g) set v)) c.direction_of.ensures
    (subst (λ s. Contains roots.items v ↔ (IsTrue (has s v) × IsRoot c.direction_of.result (numbered_links g) s v)) c.included.ensures.value
    (subst (λ (x : GraphValue). Contains roots.items v ↔ (IsTrue (has c.included.result.now v) × IsRoot c.direction_of.result x.links c.included.result.now v)) graph (each v)))) c.root_nodes.ensures.each
