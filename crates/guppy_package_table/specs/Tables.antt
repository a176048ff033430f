-- The rows of a package graph, and the graph of their places.
use Rattle.std.specs.Prelude.{◌≡◌, ℕ, ◌<◌, Bool, List, [], All, Option, map, not, find, length, nat_lt, option_map, slice_index_or}
use Rattle.std.specs.List.{position_or_len}
use Rattle.std.specs.Str.{bytes_eq}
use Rattle.workspace_record.specs.Records.{Package, Link, Member, Text, WorkspaceDetails}
use Rattle.numbered_graph.specs.declared.link.Link as numbered
use Rattle.numbered_graph.specs.Links.{link_at}
use Rattle.numbered_graph.specs.Listings.{IsListing}
use Rattle.numbered_graph.specs.Sets.{has}
use Rattle.guppy_package_table.specs.LinkRows.{is_dev_only}

-- the rows of a package graph, and the order in which its packages are listed
pub record TableValue : Type 0 where
  pub packages : List Package
  pub links : List Link
  pub workspace : WorkspaceDetails
  pub listing : List ℕ

-- the ids of packages, each at the place of its package
abbrev pub ids_of : List Package → List Text
ids_of packages = map (λ p. p.id) packages

-- the place of the first of these ids that is this one; past the end where there is none
abbrev pub place_among : List Text → Text → ℕ
place_among ids id = position_or_len (bytes_eq id) ids

-- the link from the place of one package to that of the other
abbrev pub link_between : List Text → Link → numbered.Link
link_between ids l = record { from = place_among ids l.from; to = place_among ids l.to }

-- the links of packages as links of their places
abbrev pub links_among : List Package → List Link → List numbered.Link
links_among packages links = map (link_between (ids_of packages)) links

-- the links between the places of packages (from guppy's topological order)
abbrev pub numbered_links : TableValue → List numbered.Link
numbered_links t = links_among t.packages t.links

-- a flag for each link: whether it has a normal or a build line (from guppy's topological order)
abbrev pub firm_flags : List Link → List Bool
firm_flags links = map (λ l. not (is_dev_only l)) links

-- the package with an id
abbrev pub package_of : TableValue → Text → Option Package
package_of t id = find (λ p. bytes_eq id p.id) t.packages

-- the member whose package has an id
abbrev pub member_of : TableValue → Text → Option Member
member_of t id = find (λ m. bytes_eq id m.package_id) t.workspace.members

-- the id of the package at a place
abbrev pub id_at : TableValue → ℕ → Text
id_at t place = slice_index_or (ids_of t.packages) place []

-- the path in the workspace of the package at a place
abbrev pub member_path_at : TableValue → ℕ → Option Text
member_path_at t place = option_map (λ m. m.path) (member_of t (id_at t place))

-- both ends of each link are among these ids
abbrev pub AreKnownEnds : List Text → List Link → Type 0
AreKnownEnds ids links = All (λ l. (place_among ids l.from < length ids) × (place_among ids l.to < length ids)) links

-- the link with a number leads from the one node to the other
pub record IsBetween (from to : ℕ) (links : List numbered.Link) (j : ℕ) : Type 0 where
  pub near : (link_at links j).from ≡ from
  pub far : (link_at links j).to ≡ to

-- no link before `upto` does (from guppy's `link_between`)
abbrev pub IsClear : ℕ → ℕ → List numbered.Link → ℕ → Type 0
IsClear from to links upto = (k : ℕ) → k < upto → ¬ IsBetween from to links k

-- the first link that leads from the one node to the other (from guppy's `link_between`)
pub record IsFirstBetween (from to : ℕ) (links : List numbered.Link) (j : ℕ) : Type 0 where
  pub within : j < length links
  pub between : IsBetween from to links j
  pub first : IsClear from to links j

-- the table has these rows, and lists its packages with components together, links between components forward, and
-- those with a normal or a build line forward too, unless they lie on a cycle of such links
pub record IsTableOf (packages : List Package) (links : List Link) (workspace : WorkspaceDetails) (t : TableValue) : Type 0 where
  pub rows : t.packages ≡ packages
  pub link_rows : t.links ≡ links
  pub workspace_row : t.workspace ≡ workspace
  pub listed : IsListing (links_among packages links) (has (firm_flags links)) (λ v. nat_lt v (length packages)) t.listing
