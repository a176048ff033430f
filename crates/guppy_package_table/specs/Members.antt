-- The members of a workspace by the places of their packages: their paths, their names, and both orders.
use Rattle.std.specs.Prelude.{ℕ, ◌<◌, List, [], All, length, Option, find, map, option_map, slice_get, unwrap_or}
use Rattle.std.specs.Ordering.{eq_by_cmp}
use Rattle.std.specs.declared.cmp.Ordering.{Ordering}
use Rattle.list_facts.specs.Ascending.{IsAscendingOf, text_cmp}
use Rattle.guppy_package_rules.specs.Paths.{path_cmp}
use Rattle.workspace_record.specs.Records.{Text}
use Rattle.guppy_package_table.specs.Tables.{TableValue, ids_of, member_path_at, place_among}

-- the places of the members' packages, in the order of the record
abbrev pub member_places : TableValue → List ℕ
member_places t = map (λ m. place_among (ids_of t.packages) m.package_id) t.workspace.members

-- the path of the member at a place
abbrev pub path_at : TableValue → ℕ → Text
path_at t v = unwrap_or (member_path_at t v) []

-- the name of the package at a place
abbrev pub name_at : TableValue → ℕ → Text
name_at t v = unwrap_or (option_map (λ p. p.name) (slice_get t.packages v)) []

-- places by what is read at them
abbrev pub order_by : (Text → Text → Ordering) → (ℕ → Text) → ℕ → ℕ → Ordering
order_by cmp read u v = cmp (read u) (read v)

-- the members, ascending by the components of their paths (from guppy's `Workspace`)
abbrev pub AreByPath : TableValue → List ℕ → Type 0
AreByPath t places = IsAscendingOf (order_by path_cmp (path_at t)) (member_places t) places × All (λ v. v < length t.packages) places

-- the members, ascending by the names of their packages (from guppy's `Workspace`)
abbrev pub AreByName : TableValue → List ℕ → Type 0
AreByName t places = IsAscendingOf (order_by text_cmp (name_at t)) (member_places t) places × All (λ v. v < length t.packages) places

-- the member with a path, component by component (from guppy's `Workspace`)
abbrev pub member_at_path : TableValue → Text → Option ℕ
member_at_path t path = find (λ v. eq_by_cmp path_cmp (path_at t v) path) (member_places t)

-- the member with a name (from guppy's `Workspace`)
abbrev pub member_called : TableValue → Text → Option ℕ
member_called t name = find (λ v. eq_by_cmp text_cmp (name_at t v) name) (member_places t)
