use Rattle.std.proofs.Common.{◌≡◌, ◌∙◌, ap}
use Rattle.guppy_package_table.specs.TableLinks.{links_of}
use Rattle.guppy_package_table.specs.Tables.{TableValue}
use Rattle.guppy_package_table.proofs.TableFacts.{listed_alike}
use Rattle.guppy_package_table.proofs.table.PackageTable.copy.Goals as goal

pub invariant_of-table : goal.invariant_of-table
invariant_of-table c =
    let old = c.args.self.now in
    let made = c.in_ok-table.ensures.built in
    let kept = c.table.invariant in
    let rows = c.table.inside.shared.value.rows.value in
    let packages : rows.packages ≡ old.packages = ap (λ (t : TableValue). t.packages) c.table.view_is ∙ made.rows in
    let links : links_of rows.links c.table.inside.links ≡ old.links = ap (λ (t : TableValue). t.links) c.table.view_is ∙ made.link_rows ∙ c.in_ok-links.ensures ∙ c.links.ensures in (
      kept.0,
      record {
        requirements = kept.1.requirements;
        rust_names = kept.1.rust_names;
        graph = kept.1.graph;
        listing = listed_alike old.packages _ old.links _ c.listing.result.now _ packages links c.in_ok-listing.ensures.items c.listing.ensures.listing;
      },
    )

pub returns : goal.returns
returns c =
    let made = c.in_ok-table.ensures.built in
    let packages = ap (λ (t : TableValue). t.packages) c.table.view_is ∙ made.rows in
    let links = ap (λ (t : TableValue). t.links) c.table.view_is ∙ made.link_rows ∙ c.in_ok-links.ensures ∙ c.links.ensures in
    let workspace = ap (λ (t : TableValue). t.workspace) c.table.view_is ∙ made.workspace_row in
    let listing = c.in_ok-listing.ensures.items ∙ c.listing.ensures.value in
    record { same = λ i. record { packages = packages i; links = links i; workspace = workspace i; listing = listing i } }
