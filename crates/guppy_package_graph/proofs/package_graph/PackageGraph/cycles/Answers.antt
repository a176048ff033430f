use Rattle.std.proofs.Common.{◌≡◌, ◌∙◌, ◌<◌, ℕ, nat_lt, List, Vec, Global, Contains, ap, flat_map, get_or, length, map, subst, sym}
use Rattle.std.proofs.lemmas.List.Elements.{Contains-get_or}
use Rattle.list_facts.proofs.Membership.{Contains-flat_map}
use Rattle.list_facts.proofs.Quantifiers.{All-from_Contains}
use Rattle.numbered_graph.specs.declared.direction.Direction.TheVariants.{Forward}
use Rattle.numbered_graph.specs.CycleNumbers.{NumberedCyclesValue}
use Rattle.numbered_graph.specs.Cycles.{AreCycles, AreInListingOrder}
use Rattle.numbered_graph.specs.Graphs.{GraphValue}
use Rattle.numbered_graph.specs.Listings.{IsListing}
use Rattle.numbered_graph.specs.Sets.{has}
use Rattle.guppy_package_table.specs.Tables.{TableValue, firm_flags, numbered_links}
use Rattle.guppy_package_graph.specs.Queries.{places_of}
use Rattle.guppy_package_graph.specs.CycleValues.{AreNumbered}
use Rattle.guppy_package_graph.proofs.package_graph.PackageGraph.cycles.Goals as goal

pub listed_cycles-requires : goal.listed_cycles-requires
listed_cycles-requires c =
    let g = c.args.self.now in
    let xs = c.listing.result.now in
    let firm = has (firm_flags g.links) in
    let graph : c.graph.result.now ≡ places_of g = c.graph.ensures ∙ ap places_of c.table-table.ensures in
    let of_table : IsListing (numbered_links g) firm (λ v. nat_lt v (length g.packages)) xs = subst (λ (t : TableValue). IsListing (numbered_links t) (has (firm_flags t.links)) (λ v. nat_lt v (length t.packages)) xs) c.table-table.ensures c.listing.ensures.listing in
    (firm, subst (λ (x : GraphValue). IsListing x.links firm (λ v. nat_lt v x.nodes) xs) (sym graph) of_table)

pub invariant_of-result : goal.invariant_of-result
invariant_of-result c =
    let g = c.args.self.now in
    let lists = map (λ (x : Vec ℕ Global). x.items) c.in_ok-components.components.items in
    let graph : c.graph.result.now ≡ places_of g = c.graph.ensures ∙ ap places_of c.table-table.ensures in
    let listing : c.listing.result.now ≡ g.listing = c.listing.ensures.value ∙ ap (λ (t : TableValue). t.listing) c.table-table.ensures in
    let small : (v : ℕ) → Contains (flat_map (λ x. x) lists) v → v < length g.packages = subst (λ (x : GraphValue). (v : ℕ) → Contains (flat_map (λ x. x) lists) v → v < x.nodes) graph c.in_ok-components.ensures.within in
    let numbered : AreNumbered g (record { nodes = c.package_count.result; cycles = lists }) = record {
      cyclic = subst (λ (x : GraphValue). AreCycles Forward x.links lists) graph c.in_ok-components.ensures.cycles;
      listed = subst (λ xs. AreInListingOrder xs lists) listing c.in_ok-components.ensures.listed;
      within = λ k e lt. All-from_Contains (λ v. v < length g.packages) (get_or lists k e) (λ v inside. small v (Contains-flat_map (λ x. x) lists (get_or lists k e) v (Contains-get_or lists k e lt) inside));
      counted = c.package_count.ensures.count;
    } in
    subst (λ (v : NumberedCyclesValue). AreNumbered g v) (sym c.in_ok-cycles.ensures) numbered
