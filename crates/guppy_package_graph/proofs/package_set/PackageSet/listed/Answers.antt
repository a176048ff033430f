use Rattle.std.proofs.Common.{◌≡◌, ◌∙◌, ◌<◌, ℕ, All, filter, length, nat_lt, subst, sym, ap}
use Rattle.numbered_graph.specs.Listings.{IsListing}
use Rattle.numbered_graph.specs.ListedViews.{listed_left}
use Rattle.numbered_graph.specs.Sets.{has}
use Rattle.guppy_package_table.specs.Tables.{TableValue, firm_flags, numbered_links}
use Rattle.guppy_package_graph.specs.SetValues.{SetValue, listed}
use Rattle.guppy_package_graph.proofs.PlaceFacts.{listed_within, members_alone, turned}
use Rattle.guppy_package_graph.proofs.package_set.PackageSet.listed.Goals as goal

pub returns-clause-within : goal.returns-clause-within
returns-clause-within c =
    let g = c.self.inside.graph.now in
    let set = c.self.inside.included in
    let xs = c.listing.result.now in
    let within : ℕ → Type 0 = λ v. v < length g.packages in
    let of_graph : IsListing (numbered_links g) (has (firm_flags g.links)) (λ v. nat_lt v (length g.packages)) xs =
    subst (λ (t : TableValue). IsListing (numbered_links t) (has (firm_flags t.links)) (λ v. nat_lt v (length t.packages)) xs) c.table-table.ensures c.listing.ensures.listing in
    subst (λ (s : SetValue). All (λ v. v < length s.graph.packages) (listed_left c.new.result)) c.self.view_is (subst (All within) (sym c.new.ensures.listed)
    (turned c.direction_of.result within (filter (has set) xs) (listed_within (numbered_links g) (has (firm_flags g.links)) (has set) (length g.packages) xs of_graph)))

pub returns-clause-listing : goal.returns-clause-listing
returns-clause-listing c =
    let g = c.self.inside.graph.now in
    let set = c.self.inside.included in
    let xs = c.listing.result.now in
    let of_graph : IsListing (numbered_links g) (has (firm_flags g.links)) (λ v. nat_lt v (length g.packages)) xs =
    subst (λ (t : TableValue). IsListing (numbered_links t) (has (firm_flags t.links)) (λ v. nat_lt v (length t.packages)) xs) c.table-table.ensures c.listing.ensures.listing in
    let kept = members_alone (numbered_links g) (has (firm_flags g.links)) set (length g.packages) (filter (has set) xs) c.self.invariant
    (c.new.ensures.listing (numbered_links g) (has (firm_flags g.links)) (λ v. nat_lt v (length g.packages)) of_graph) in
    let same : xs ≡ g.listing = c.listing.ensures.value ∙ ap (λ (t : TableValue). t.listing) c.table-table.ensures in
    subst (λ (s : SetValue). IsListing (numbered_links s.graph) (has (firm_flags s.graph.links)) (has s.included) (listed s)) c.self.view_is
    (subst (λ ys. IsListing (numbered_links g) (has (firm_flags g.links)) (has set) (filter (has set) ys)) same kept)
