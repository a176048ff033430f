-- Sets of packages of a graph.
use Rattle.std.specs.Prelude.{◌≡◌, ◌↔◌, ℕ, Bool, List, IsTrue, filter}
use Rattle.numbered_graph.specs.Sets.{has}
use Rattle.guppy_package_table.specs.Tables.{TableValue}

-- what is seen of a set: its graph, and a flag for each package (from guppy's sets)
pub record SetValue : Type 0 where
  pub graph : TableValue
  pub included : List Bool

-- the places of the set's packages, in the order in which its graph lists them (from guppy's sets)
abbrev pub listed : SetValue → List ℕ
listed s = filter (has s.included) s.graph.listing

-- the set is of this graph, and has the packages that pass and no other (from guppy's sets)
pub record IsSetOf (g : TableValue) (passes : ℕ → Type 0) (s : SetValue) : Type 0 where
  pub graph : s.graph ≡ g
  pub members : (v : ℕ) → IsTrue (has s.included v) ↔ passes v
