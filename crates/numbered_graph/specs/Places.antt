-- What nodes are sorted by.
use Rattle.std.specs.Prelude.{ℕ, List, slice_index}
use Rattle.numbered_graph.specs.declared.listings.Place.{Place}

-- a node with its ranks
abbrev pub place_of : List ℕ → List ℕ → ℕ → Place
place_of ranks firm_ranks v = record { rank = slice_index ranks v; firm_rank = slice_index firm_ranks v; node = v }
