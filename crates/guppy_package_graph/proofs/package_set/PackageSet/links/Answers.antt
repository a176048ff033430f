use Rattle.std.proofs.Common.{◌≡◌, ◌∙◌, List, Bool, IfOk, ap, filter, length, map, subst}
use Rattle.std.proofs.lemmas.List.{length-map}
use Rattle.numbered_graph.specs.Graphs.{GraphValue}
use Rattle.numbered_graph.specs.Listings.{numbers_below}
use Rattle.numbered_graph.specs.Roots.{is_inside}
use Rattle.guppy_package_table.specs.Tables.{ids_of, link_between, numbered_links}
use Rattle.guppy_package_graph.specs.Queries.{places_of}
use Rattle.guppy_package_graph.specs.Views.{number_of}
use Rattle.guppy_package_graph.proofs.package_set.PackageSet.links.Goals as goal

pub returns-clause-inside : goal.returns-clause-inside
returns-clause-inside c =
    let g = c.args.self.now.graph in
    let graph : c.graph.result.now ≡ places_of g = c.graph.ensures ∙ ap places_of (c.table.ensures ∙ c.graph-graph.ensures.graph) in
    let inside =
    c.in_ok-numbers.ensures.inside
    ∙ ap (λ (x : GraphValue). filter (is_inside x.links c.included.result.now) (numbers_below (length x.links))) graph
    ∙ ap (λ (set : List Bool). filter (is_inside (numbered_links g) set) (numbers_below (length (numbered_links g)))) c.included.ensures.value
    ∙ ap (λ n. filter (is_inside (numbered_links g) c.args.self.now.included) (numbers_below n)) (length-map g.links (link_between (ids_of g.packages))) in
    subst (λ xs. IfOk c.links_of.result (λ ls. map number_of ls.items ≡ xs)) (c.deref.ensures.value ∙ inside) c.links_of.ensures.numbers
