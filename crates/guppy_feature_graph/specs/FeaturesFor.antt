-- The features of one package that are in a set.
use Rattle.std.specs.Prelude.{◌≡◌, ◌≢◌, ◌↔◌, ◌⊎◌, ⊤, ℕ, Bool, false, List, [], ◌∷◌, Any, Contains, IsTrue, map, Option, Some, None, Result, Ok, Err, filter, slice_get}
use Rattle.std.specs.List.{list_any}
use Rattle.numbered_graph.specs.Sets.{has}
use Rattle.workspace_record.specs.Records.{Package, Text}
use Rattle.workspace_record.specs.Features.{LabelValue}
use Rattle.guppy_package_parts.specs.declared.error.Error.{Error}
use Rattle.guppy_package_parts.specs.declared.error.Error.TheVariants.{Memory, UnknownPackageId}
use Rattle.guppy_package_table.specs.Tables.{TableValue, id_at}
use Rattle.guppy_package_graph.specs.Finding.{IsAt, IsUnknown}
use Rattle.numbered_graph.specs.ListedViews.{in_direction}
use Rattle.guppy_package_parts.specs.declared.dependency_direction.DependencyDirection.{DependencyDirection}
use Rattle.guppy_package_graph.specs.Directions.{direction_of}
use Rattle.guppy_package_graph.specs.SetValues as sets
use Rattle.guppy_feature_demands.specs.Nodes.{number_of}
use Rattle.guppy_feature_views.specs.Labels.{AreLabels, labels_of}
use Rattle.guppy_feature_views.specs.ListValues.{ListValue}
use Rattle.guppy_feature_graph.specs.PackageFeatures.{IsOfFeature, IsPackageSetOf}
use Rattle.guppy_feature_graph.specs.Queries.{QueryValue}
use Rattle.guppy_feature_graph.specs.Sets.{SetValue}

-- the feature of the package with this label is in the set
abbrev pub has_label : SetValue → Text → LabelValue → Bool
has_label s id l = has s.included (number_of s.graph.nodes (record { package_id = id; label = l }))

-- the labels of a package's row whose features are in the set
abbrev pub labels_in : SetValue → Package → List LabelValue
labels_in s row = filter (has_label s row.id) (labels_of row)

-- one of the features that a package's row lists is in the set (from guppy's `initial_packages`)
abbrev pub has_row : SetValue → Option Package → Bool
has_row s None = false
has_row s (Some row) = list_any (has_label s row.id) (labels_of row)

-- the package with the id, and its row
pub record IsRowOf (t : TableValue) (id : Text) (place : ℕ) (row : Package) : Type 0 where
  pub is_at : IsAt t id place
  pub is_row : slice_get t.packages place ≡ Some row

-- memory ran out, or no package has the id
abbrev pub IsNoPackage : TableValue → Text → Error → Type 0
IsNoPackage t id error = (error ≡ Memory) ⊎ (IsUnknown t id × (error ≡ UnknownPackageId))

-- a list of the package at a place, with these labels of its row
pub record ListsAt (of : Package → List LabelValue) (t : TableValue) (at : ℕ) (list : ListValue) : Type 0 where
  pub row : Package
  pub is_row : slice_get t.packages at ≡ Some row
  pub graph : list.graph ≡ t
  pub place : list.place ≡ at
  pub labels : AreLabels (Contains (of row)) list.labels

-- all features of the package with the id
pub record ListsAll (t : TableValue) (id : Text) (list : ListValue) : Type 0 where
  pub row : Package
  pub is_row : IsRowOf t id list.place row
  pub graph : list.graph ≡ t
  pub labels : AreLabels (Contains (labels_of row)) list.labels

-- those of them that are in the set, of which there are some
pub record ListsThose (s : SetValue) (id : Text) (list : ListValue) : Type 0 where
  pub row : Package
  pub is_row : IsRowOf s.graph.rows id list.place row
  pub graph : list.graph ≡ s.graph.rows
  pub some : labels_in s row ≢ []
  pub labels : AreLabels (Contains (labels_in s row)) list.labels

-- none of them is in the set
pub record HasNone (s : SetValue) (id : Text) : Type 0 where
  pub place : ℕ
  pub row : Package
  pub is_row : IsRowOf s.graph.rows id place row
  pub none : labels_in s row ≡ []

-- the features of a package in a set, or that the package is unknown or none of its features is in the set
abbrev pub FindsList : SetValue → Text → Option ListValue → Type 0
FindsList s id (Some list) = ListsThose s id list
FindsList s id None = HasNone s id

-- the package is known, and the answer says whether one of its features is in the set
pub record SaysPackage (s : SetValue) (id : Text) (answer : Bool) : Type 0 where
  pub place : ℕ
  pub row : Package
  pub is_row : IsRowOf s.graph.rows id place row
  pub says : answer ≡ list_any (has_label s row.id) (labels_of row)

abbrev pub AnswersPackage : SetValue → Text → Result Bool Error → Type 0
AnswersPackage s id (Ok answer) = SaysPackage s id answer
AnswersPackage s id (Err error) = IsUnknown s.graph.rows id × (error ≡ UnknownPackageId)

-- the lists are those of the packages with these ids, one after the other
abbrev pub ListEach : SetValue → List Text → List ListValue → Type 0
ListEach s [] [] = ⊤
ListEach s [] (list ∷ lists) = ⊥
ListEach s (id ∷ ids) [] = ⊥
ListEach s (id ∷ ids) (list ∷ lists) = ListsThose s id list × ListEach s ids lists

-- a list for each package that has a feature in the set, in the order in which these packages are listed
pub record ListsPackages (s : SetValue) (direction : DependencyDirection) (lists : List ListValue) : Type 0 where
  pub packages : sets.SetValue
  pub are_packages : IsPackageSetOf s.graph (IsOfFeature s) packages
  pub each : ListEach s (map (id_at packages.graph) (in_direction (direction_of direction) (sets.listed packages))) lists

-- the package is known, and the answer says whether one of its features is an initial
pub record SaysStarts (q : QueryValue) (id : Text) (answer : Bool) : Type 0 where
  pub place : ℕ
  pub row : Package
  pub is_row : IsRowOf q.graph.rows id place row
  pub says : IsTrue answer ↔ Any (λ l. Contains q.initials (number_of q.graph.nodes (record { package_id = row.id; label = l }))) (labels_of row)

abbrev pub AnswersStarts : QueryValue → Text → Result Bool Error → Type 0
AnswersStarts q id (Ok answer) = SaysStarts q id answer
AnswersStarts q id (Err error) = IsUnknown q.graph.rows id × (error ≡ UnknownPackageId)

-- one of the features that are listed by the row of the package at a place is an initial (from guppy's `initial_packages`)
pub record HasInitial (q : QueryValue) (place : ℕ) : Type 0 where
  pub row : Package
  pub is_row : slice_get q.graph.rows.packages place ≡ Some row
  pub among : Any (λ l. Contains q.initials (number_of q.graph.nodes (record { package_id = row.id; label = l }))) (labels_of row)
