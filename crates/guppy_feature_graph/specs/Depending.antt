-- Whether one feature leads to another.
use Rattle.std.specs.Prelude.{◌≡◌, ◌↔◌, ◌⊎◌, ℕ, ◌<◌, Bool, List, Result, Ok, Err, IsTrue, length}
use Rattle.numbered_graph.specs.declared.link.Link.{Link}
use Rattle.numbered_graph.specs.Paths.{Reaches, any_link}
use Rattle.guppy_package_parts.specs.declared.error.Error.{Error}
use Rattle.guppy_package_parts.specs.declared.error.Error.TheVariants.{Memory, UnknownFeatureId}
use Rattle.workspace_record.specs.Features.{FeatureValue}
use Rattle.guppy_package_table.specs.Tables.{IsBetween}
use Rattle.guppy_feature_nodes.specs.GraphEdges.{edge_ends}
use Rattle.guppy_feature_nodes.specs.Graphs.{FeatureGraphValue}
use Rattle.guppy_feature_graph.specs.Finding.{IsNumber, IsUnknown}

-- one of the two features is unknown
abbrev pub IsUnknownPair : FeatureGraphValue → FeatureValue → FeatureValue → Error → Type 0
IsUnknownPair g a b error = (IsUnknown g a ⊎ IsUnknown g b) × (error ≡ UnknownFeatureId)

-- the numbers of both features, or that one of them is unknown
abbrev pub FindsPair : FeatureGraphValue → FeatureValue → FeatureValue → Result (ℕ × ℕ) Error → Type 0
FindsPair g a b (Ok nodes) = IsNumber g a nodes.0 × IsNumber g b nodes.1
FindsPair g a b (Err error) = IsUnknownPair g a b error

-- both features are known, and the answer says whether a path of edges leads from the one to the other
pub record SaysReaches (g : FeatureGraphValue) (a b : FeatureValue) (answer : Bool) : Type 0 where
  pub from : ℕ
  pub to : ℕ
  pub is_from : IsNumber g a from
  pub is_to : IsNumber g b to
  pub says : IsTrue answer ↔ Reaches (edge_ends g.edges) any_link from to

abbrev pub AnswersDepending : FeatureGraphValue → FeatureValue → FeatureValue → Result Bool Error → Type 0
AnswersDepending g a b (Ok answer) = SaysReaches g a b answer
AnswersDepending g a b (Err error) = (error ≡ Memory) ⊎ IsUnknownPair g a b error

-- some link leads from the one node to the other
pub record HasLink (links : List Link) (from to : ℕ) : Type 0 where
  pub number : ℕ
  pub within : number < length links
  pub between : IsBetween from to links number

-- both features are known, and the answer says whether an edge leads from the one to the other
pub record SaysLinked (g : FeatureGraphValue) (a b : FeatureValue) (answer : Bool) : Type 0 where
  pub from : ℕ
  pub to : ℕ
  pub is_from : IsNumber g a from
  pub is_to : IsNumber g b to
  pub says : IsTrue answer ↔ HasLink (edge_ends g.edges) from to

abbrev pub AnswersDirectly : FeatureGraphValue → FeatureValue → FeatureValue → Result Bool Error → Type 0
AnswersDirectly g a b (Ok answer) = SaysLinked g a b answer
AnswersDirectly g a b (Err error) = IsUnknownPair g a b error
