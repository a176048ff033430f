-- Features that lead to each other.
use Rattle.std.specs.Prelude.{◌≡◌, ◌↔◌, ℕ, ◌<◌, All, Bool, List, Result, Ok, Err, IsTrue, length}
use Rattle.numbered_graph.specs.declared.direction.Direction.TheVariants.{Reverse}
use Rattle.numbered_graph.specs.CycleNumbers.{AreCyclic, NumberedCyclesValue}
use Rattle.numbered_graph.specs.Cycles.{AreCycles}
use Rattle.guppy_package_parts.specs.declared.error.Error.{Error}
use Rattle.workspace_record.specs.Features.{FeatureValue}
use Rattle.guppy_feature_nodes.specs.GraphEdges.{edge_ends}
use Rattle.guppy_feature_nodes.specs.Graphs.{FeatureGraphValue}
use Rattle.guppy_feature_graph.specs.Depending.{IsUnknownPair}
use Rattle.guppy_feature_graph.specs.Finding.{IsNumber}

-- what is seen of cycles: their graph, and the numbers of each component's features
pub record CyclesValue : Type 0 where
  pub graph : FeatureGraphValue
  pub cycles : List (List ℕ)

-- both features are known, and the answer says whether each leads to the other by at least one edge
pub record SaysCyclic (g : FeatureGraphValue) (a b : FeatureValue) (answer : Bool) : Type 0 where
  pub from : ℕ
  pub to : ℕ
  pub is_from : IsNumber g a from
  pub is_to : IsNumber g b to
  pub says : IsTrue answer ↔ AreCyclic (edge_ends g.edges) from to

abbrev pub AnswersCyclic : FeatureGraphValue → FeatureValue → FeatureValue → Result Bool Error → Type 0
AnswersCyclic g a b (Ok answer) = SaysCyclic g a b answer
AnswersCyclic g a b (Err error) = IsUnknownPair g a b error

-- the cycles of a graph, none after one that leads to it, with the number of each feature's cycle
pub record AreNumbered (g : FeatureGraphValue) (c : NumberedCyclesValue) : Type 0 where
  pub cyclic : AreCycles Reverse (edge_ends g.edges) c.cycles
  pub within : All (λ c. All (λ v. v < length g.nodes) c) c.cycles
  pub counted : c.nodes ≡ length g.nodes
