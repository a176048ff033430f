-- Directed links between numbered nodes. A link is told by its place in the list of links.
use Rattle.std.specs.Prelude.{ℕ, ◌<◌, List, All, slice_index_or}
use Rattle.numbered_graph.specs.declared.link.Link.{Link}
use Rattle.numbered_graph.specs.declared.direction.Direction.{Direction}
use Rattle.numbered_graph.specs.declared.direction.Direction.TheVariants.{Forward, Reverse}

-- the link with a number; past the end one from node 0 to itself, which no definition counts
abbrev pub link_at : List Link → ℕ → Link
link_at links j = slice_index_or links j (record { from = 0; to = 0 })

-- the end from which a link is followed
abbrev pub near_of : Direction → Link → ℕ
near_of Forward l = l.from
near_of Reverse l = l.to

-- the end to which a link is followed
abbrev pub far_of : Direction → Link → ℕ
far_of Forward l = l.to
far_of Reverse l = l.from

abbrev pub near_at : Direction → List Link → ℕ → ℕ
near_at d links j = near_of d (link_at links j)

abbrev pub far_at : Direction → List Link → ℕ → ℕ
far_at d links j = far_of d (link_at links j)

-- both ends of each link are among the nodes
abbrev pub AreWithin : ℕ → List Link → Type 0
AreWithin nodes links = All (λ l. (l.from < nodes) × (l.to < nodes)) links
