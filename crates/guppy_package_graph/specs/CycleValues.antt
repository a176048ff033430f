-- Packages that depend on each other.
pub use Rattle.numbered_graph.specs.CycleNumbers.{AreCyclic, Walks}
pub use Rattle.numbered_graph.specs.Cycles.{has_node}
use Rattle.std.specs.Prelude.{◌≡◌, ◌↔◌, ◌⊎◌, All, ℕ, ◌<◌, Bool, List, Result, Ok, Err, IsTrue, length}
use Rattle.numbered_graph.specs.declared.direction.Direction.TheVariants.{Forward}
use Rattle.numbered_graph.specs.CycleNumbers.{NumberedCyclesValue}
use Rattle.numbered_graph.specs.Cycles.{AreCycles, AreInListingOrder}
use Rattle.guppy_package_parts.specs.declared.error.Error.{Error}
use Rattle.guppy_package_parts.specs.declared.error.Error.TheVariants.{UnknownPackageId}
use Rattle.workspace_record.specs.Records.{Text}
use Rattle.guppy_package_table.specs.Tables.{TableValue, numbered_links}
use Rattle.guppy_package_graph.specs.Finding.{IsAt, IsUnknown}

-- what is seen of cycles: their graph, and the places of each component
pub record CyclesValue : Type 0 where
  pub graph : TableValue
  pub cycles : List (List ℕ)

-- both packages are known, and the answer says whether they depend on each other
pub record SaysCyclic (g : TableValue) (a b : Text) (answer : Bool) : Type 0 where
  pub from : ℕ
  pub to : ℕ
  pub is_from : IsAt g a from
  pub is_to : IsAt g b to
  pub says : IsTrue answer ↔ AreCyclic (numbered_links g) from to

abbrev pub AnswersCyclic : TableValue → Text → Text → Result Bool Error → Type 0
AnswersCyclic g a b (Ok answer) = SaysCyclic g a b answer
AnswersCyclic g a b (Err error) = (IsUnknown g a ⊎ IsUnknown g b) × (error ≡ UnknownPackageId)

-- the cycles of a graph in the order in which its packages are listed, with the number of each place's cycle
pub record AreNumbered (g : TableValue) (c : NumberedCyclesValue) : Type 0 where
  pub cyclic : AreCycles Forward (numbered_links g) c.cycles
  pub listed : AreInListingOrder g.listing c.cycles
  pub within : All (λ c. All (λ v. v < length g.packages) c) c.cycles
  pub counted : c.nodes ≡ length g.packages
