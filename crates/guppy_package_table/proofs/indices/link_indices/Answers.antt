use Rattle.std.proofs.Common.{◌≡◌, ◌∙◌, ap, sym, subst, List, length, map, nat_lt}
use Rattle.std.proofs.lemmas.List.{length-map}
use Rattle.numbered_graph.specs.Graphs.{GraphValue}
use Rattle.numbered_graph.specs.Listings.{IsListing}
use Rattle.numbered_graph.specs.Sets.{has}
use Rattle.workspace_record.specs.Records.{Text}
use Rattle.guppy_package_table.specs.Tables.{AreKnownEnds, firm_flags, ids_of, link_between}
use Rattle.guppy_package_table.proofs.indices.link_indices.Goals as goal

pub graph_of-requires : goal.graph_of-requires
graph_of-requires c = subst (λ ids. AreKnownEnds ids c.args.links.now) (sym c.requires.ids) c.requires.ends

pub returns : goal.returns
returns c =
    let packages = c.args.shared.now.rows.value.packages in
    let links = c.args.links.now in
    let graph : c.in_ok-graph.graph ≡ record { nodes = length packages; links = map (link_between (ids_of packages)) links } =
    c.in_ok-graph.ensures ∙ ap (λ (ids : List Text). record { nodes = length ids; links = map (link_between ids) links }) c.requires.ids
    ∙ ap (λ n. record { nodes = n; links = map (link_between (ids_of packages)) links }) (length-map packages (λ p. p.id)) in
    record {
      requirements = c.requires.read;
      rust_names = c.in_ok-rust_names.ensures;
      graph = graph;
      listing = subst (λ (g : GraphValue). IsListing g.links (has (firm_flags links)) (λ v. nat_lt v g.nodes) c.in_ok-listing.listing.items) graph c.in_ok-listing.ensures;
    }
