use Rattle.std.proofs.Common.{◌≡◌, ◌∙◌, ◌<◌, IfNone, IfSome, ap, length, subst, sym}
use Rattle.numbered_graph.specs.Chains.{IsNextLink}
use Rattle.numbered_graph.specs.Graphs.{GraphValue}
use Rattle.guppy_package_table.specs.Tables.{numbered_links}
use Rattle.guppy_package_graph.specs.Queries.{places_of}
use Rattle.guppy_package_graph.proofs.DirectFacts.{begins}
use Rattle.guppy_package_graph.proofs.direct_links.DirectLinks.of.Goals as goal

pub returns-clause-links : goal.returns-clause-links
returns-clause-links c =
    let g = c.args.graph.now in
    let d = c.args.direction in
    let next = c.first_link-next.result in
    let graph : c.graph.result.now ≡ places_of g = c.graph.ensures ∙ ap places_of c.table.ensures in
    let some = subst (λ (x : GraphValue). IfSome next (λ j. (j < length x.links) × IsNextLink d x.links c.args.place 0 j)) graph c.first_link-next.ensures.some in
    let none = subst (λ (x : GraphValue). IfNone next (IsNextLink d x.links c.args.place 0 (length x.links))) graph c.first_link-next.ensures.none in
    sym (begins d (numbered_links g) c.args.place 0 next some none)
