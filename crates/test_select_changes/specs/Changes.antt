-- Which packages changed paths belong to, and what the changes come to.
use Rattle.std.specs.Prelude.{◌≡◌, ◌≢◌, ℕ, ◌≤◌, List, [], ◌++◌, ◌↔◌, ◌⊎◌, ⊤, All, Contains, Result, Ok, Err, Some, true, false, length, take, codes, slice_get}
use Rattle.std.specs.List.{join_by}
use Rattle.std.specs.Str.{chars}
use Rattle.std.specs.List.Sorted.{IsStrictlySortedBy}
use Rattle.list_facts.specs.Ascending.{text_cmp}
use Rattle.list_facts.specs.Texts.{texts}
use Rattle.workspace_record.specs.Records.{Package, Text}
use Rattle.guppy_package_rules.specs.Paths.{is_relative, parts}
use Rattle.guppy_package_parts.specs.Sources.{Workspace, Path}
use Rattle.guppy_package_table.specs.Tables.{TableValue}
use Rattle.guppy_package_graph.specs.Sources.{IsSourceAt}
use Rattle.nextest_filter_matchers.specs.Globs.{Glob, GlobMatches}
use Rattle.test_select_changes.specs.declared.changed.Changed.{Changed}
use Rattle.test_select_changes.specs.declared.changed.Changed.TheVariants as changed
use Rattle.test_select_changes.specs.declared.changed.ChangedError.{ChangedError}
use Rattle.test_select_changes.specs.declared.changed.ChangedError.TheVariants as failed

-- a path told from the workspace's root: relative, and no part of it steps up
abbrev pub IsWithin : Text → Type 0
IsWithin path = (is_relative path ≡ true) × All (λ part. part ≢ codes "..") (parts path)

-- the parts of a path with `/` between them
abbrev pub joined_parts : Text → Text
joined_parts path = join_by (λ part. part) (codes "/") (parts path)

-- one absolute path lies below another: these parts are what it has more (Cargo's manifests lie in their packages' folders)
abbrev pub IsBelow : Text → Text → List Text → Type 0
IsBelow root path more = (is_relative root ≡ false) × (is_relative path ≡ false) × (parts path ≡ parts root ++ more)

-- the package has its files in the folder of these parts: a member where the record says, another one that has no source below the workspace's root
-- (Cargo's manifests lie in their packages' folders)
pub data HasFolder (g : TableValue) (v : ℕ) (folder : List Text) : Type 0 where
  member : {path : Text} → IsSourceAt g v (Workspace path) → folder ≡ parts path → HasFolder g v folder
  beside : {path : Text} → IsSourceAt g v (Path path) → IsBelow g.workspace.root path folder → HasFolder g v folder

-- the path lies in the folder
abbrev pub LiesIn : Text → List Text → Type 0
LiesIn path folder = (more : List Text) × (parts path ≡ folder ++ more)

-- a changed path is looked at: it has a part, and no glob takes its parts
pub record IsLookedAt (globs : List Glob) (path : Text) : Type 0 where
  pub has_part : parts path ≢ []
  pub not_taken : (glob : Glob) → Contains globs glob → GlobMatches glob (chars (joined_parts path)) → ⊥

module _ (g : TableValue) (among : ℕ → Type 0) where
  -- of these packages, the path belongs to this one: it lies in its folder, and in no longer folder of any
  pub record BelongsTo (path : Text) (v : ℕ) : Type 0 where
    pub is_among : among v
    pub folder : List Text
    pub has : HasFolder g v folder
    pub lies : LiesIn path folder
    pub longest : (u : ℕ) (other : List Text) → among u → HasFolder g u other → LiesIn path other → length other ≤ length folder

  -- the path belongs to a package of this name
  pub record BelongsToName (path : Text) (name : Text) : Type 0 where
    pub place : ℕ
    pub belongs : BelongsTo path place
    pub row : Package
    pub is_row : slice_get g.packages place ≡ Some row
    pub is_name : row.name ≡ name

  -- the path stands for all packages: it belongs to none, or to one without a name
  abbrev pub StandsForAll : Text → Type 0
  StandsForAll path = ((v : ℕ) → BelongsTo path v → ⊥) ⊎ BelongsToName path []

  module _ (globs : List Glob) (paths : List Text) where
    -- the names of the packages to which changed paths belong, ascending, each once
    pub record AreChangedNames (names : List Text) : Type 0 where
      pub members : (name : Text) → Contains names name ↔ ((path : Text) × Contains paths path × IsLookedAt globs path × BelongsToName path name)
      pub ascending : IsStrictlySortedBy text_cmp names

    -- what the changed paths come to: all packages where one of them stands for all, else the names of those to which they belong; or the first path that is not within
    abbrev pub Changes : Result Changed ChangedError → Type 0
    Changes (Ok changed.All) = All IsWithin paths × ((path : Text) × Contains paths path × IsLookedAt globs path × StandsForAll path)
    Changes (Ok (changed.Packages names)) = All IsWithin paths × ((path : Text) → Contains paths path → IsLookedAt globs path → StandsForAll path → ⊥) × AreChangedNames (texts names.items)
    Changes (Err (failed.Path place)) = All IsWithin (take place paths) × ((path : Text) × (slice_get paths place ≡ Some path) × (IsWithin path → ⊥))
    Changes (Err failed.Memory) = ⊤
