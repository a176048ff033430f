-- The members of the workspace, by the places of their packages.
use Rattle.std.specs.Prelude.{ℕ, Contains, map}
use Rattle.guppy_package_table.specs.Tables.{TableValue, ids_of, place_among}

-- the package at the place is a member
abbrev pub IsMemberPlace : TableValue → ℕ → Type 0
IsMemberPlace g v = Contains (map (λ m. place_among (ids_of g.packages) m.package_id) g.workspace.members) v
