-- The folders of packages with their names, and those of them in which a path lies.
use Rattle.std.specs.Prelude.{◌≡◌, ℕ, ◌≤◌, List, ◌↔◌, ◌++◌, Contains, Some, length, slice_get}
use Rattle.std.specs.List.Sorted.{IsSorted}
use Rattle.workspace_record.specs.Records.{Package, Text}
use Rattle.guppy_package_rules.specs.Paths.{parts}
use Rattle.guppy_package_parts.specs.Sources.{Source, Workspace, Path, External}
use Rattle.guppy_package_table.specs.Tables.{TableValue}
use Rattle.test_select_changes.specs.Changes.{HasFolder, IsBelow}
use Rattle.test_select_changes.specs.PartViews.{parts_cmp}

-- the parts of a folder, and the name of a package that has its files there
pub record NamedFolder : Type 0 where
  pub parts : List Text
  pub name : Text

-- a package from there has its files in the folder of these parts
abbrev pub IsFolderOf : Text → Source → List Text → Type 0
IsFolderOf root (Workspace path) folder = parts path ≡ folder
IsFolderOf root (Path path) folder = IsBelow root path folder
IsFolderOf root (External text) folder = ⊥

-- the package at the place has this folder and this name
pub record IsFolderAt (g : TableValue) (v : ℕ) (folder : NamedFolder) : Type 0 where
  pub has : HasFolder g v folder.parts
  pub row : Package
  pub is_row : slice_get g.packages v ≡ Some row
  pub is_name : row.name ≡ folder.name

-- one of these packages has this folder and this name
abbrev pub IsFolderAmong : TableValue → (ℕ → Type 0) → NamedFolder → Type 0
IsFolderAmong g among folder = (v : ℕ) × among v × IsFolderAt g v folder

-- these are the folders of these packages
abbrev pub AreFolders : TableValue → (ℕ → Type 0) → List NamedFolder → Type 0
AreFolders g among folders = (folder : NamedFolder) → Contains folders folder ↔ IsFolderAmong g among folder

-- ascending by their parts
abbrev pub AreInOrder : List NamedFolder → Type 0
AreInOrder folders = IsSorted (λ a b. parts_cmp a.parts b.parts) folders

-- the folder begins a path of these parts
abbrev pub Begins : List Text → List Text → Type 0
Begins folder path = (more : List Text) × (path ≡ folder ++ more)

-- of these folders one that begins a path of these parts, and none that does is longer
pub record IsInnermost (folders : List NamedFolder) (path : List Text) (folder : NamedFolder) : Type 0 where
  pub among : Contains folders folder
  pub begins : Begins folder.parts path
  pub longest : (other : NamedFolder) → Contains folders other → Begins other.parts path → length other.parts ≤ length folder.parts
