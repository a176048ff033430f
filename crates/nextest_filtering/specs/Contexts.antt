-- The packages and binaries whose names filters are matched against, and the paths between packages.
use Rattle.std.specs.Prelude.{◌≡◌, ◌↔◌, ℕ, List, [], ◌∷◌, Contains, Option, Some, None, codes, map, slice_get}
use Rattle.std.specs.List.{flat_map}
use Rattle.numbered_graph.specs.Paths.{Reaches, any_link}
use Rattle.workspace_record.specs.Records.{Text, Package, FeatureEntry, Target}
use Rattle.guppy_package_parts.specs.BuildTargets.{TargetId, Library, BuildScript, Binary, Example, Test, Benchmark, id_of}
use Rattle.guppy_package_table.specs.Tables.{TableValue, numbered_links}
use Rattle.guppy_package_graph.specs.Finding.{IsAt}
use Rattle.nextest_binaries.specs.BinaryIds.{binary_id}

-- what is seen of a context: the graph whose links paths follow, each package by its id and its name, each binary by its id and its name, the names of the packages' features, and the features that are said to be on, each by its package's id and its name
pub record ContextValue : Type 0 where
  pub graph : TableValue
  pub packages : List (Text × Text)
  pub binaries : List (Text × Text)
  pub features : List Text
  pub on : List (Text × Text)

-- the kind of the binary of a target, if it has tests
abbrev pub binary_kind : TargetId → Option Text
binary_kind Library = Some (codes "lib")
binary_kind BuildScript = None
binary_kind (Binary name) = Some (codes "bin")
binary_kind (Example name) = Some (codes "example")
binary_kind (Test name) = Some (codes "test")
binary_kind (Benchmark name) = Some (codes "bench")

abbrev pub named_binary : Text → Text → Option Text → List (Text × Text)
named_binary package_name target_name (Some kind) = (binary_id package_name kind target_name, target_name) ∷ []
named_binary package_name target_name None = []

-- the binaries of a package: those of all its targets but build scripts, tested or not (from nextest)
abbrev pub binaries_of : Package → List (Text × Text)
binaries_of p = flat_map (λ (t : Target). named_binary p.name t.name (binary_kind (id_of t.kind t.name))) p.targets

-- the names of the features of a package, on or off (from nextest)
abbrev pub features_of : Package → List Text
features_of p = map (λ (f : FeatureEntry). f.name) p.features

-- the rows are those at the places that pass
abbrev pub AreRowsAt : TableValue → (ℕ → Type 0) → List Package → Type 0
AreRowsAt g passes rows = (p : Package) → Contains rows p ↔ ((v : ℕ) × passes v × (slice_get g.packages v ≡ Some p))

-- the context follows the links of one graph, and has the packages of a graph that pass, their binaries and their features; which of these are on is left open
-- (from nextest)
pub record IsContextOf (links packages : TableValue) (passes : ℕ → Type 0) (cx : ContextValue) : Type 0 where
  pub graph : cx.graph ≡ links
  pub rows : List Package
  pub are_rows : AreRowsAt packages passes rows
  pub named : cx.packages ≡ map (λ (p : Package). (p.id, p.name)) rows
  pub built : cx.binaries ≡ flat_map binaries_of rows
  pub featured : cx.features ≡ flat_map features_of rows

-- a path, maybe empty, leads from the package with the one id to that with the other (from nextest)
pub record Leads (g : TableValue) (a b : Text) : Type 0 where
  pub from : ℕ
  pub to : ℕ
  pub is_from : IsAt g a from
  pub is_to : IsAt g b to
  pub path : Reaches (numbered_links g) any_link from to
