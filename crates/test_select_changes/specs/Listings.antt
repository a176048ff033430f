-- What changed paths come to, over a list of the folders of packages.
use Rattle.std.specs.Prelude.{◌≡◌, List, [], ◌↔◌, ◌⊎◌, Contains, Option, Some, None}
use Rattle.std.specs.List.Sorted.{IsStrictlySortedBy}
use Rattle.list_facts.specs.Ascending.{text_cmp}
use Rattle.list_facts.specs.Texts.{texts}
use Rattle.workspace_record.specs.Records.{Text}
use Rattle.guppy_package_rules.specs.Paths.{parts}
use Rattle.nextest_filter_matchers.specs.Globs.{Glob}
use Rattle.test_select_changes.specs.Changes.{IsLookedAt}
use Rattle.test_select_changes.specs.Folders.{IsInnermost, NamedFolder}
use Rattle.test_select_changes.specs.declared.changed.Changed.{Changed}
use Rattle.test_select_changes.specs.declared.changed.Changed.TheVariants as changed

module _ (folders : List NamedFolder) where
  -- of the longest folders in which the path lies one has this name
  abbrev pub IsNameAround : Text → Text → Type 0
  IsNameAround path name = (folder : NamedFolder) × IsInnermost folders (parts path) folder × (folder.name ≡ name)

  -- the path lies in none, or in one without a name: it stands for all packages
  abbrev pub IsForAll : Text → Type 0
  IsForAll path = ((folder : NamedFolder) → IsInnermost folders (parts path) folder → ⊥) ⊎ IsNameAround path []

  module _ (globs : List Glob) where
    -- all packages where the path stands for all, else these names, none where it is not looked at
    abbrev pub IsFoundAround : Text → Option (List Text) → Type 0
    IsFoundAround path None = IsLookedAt globs path × IsForAll path
    IsFoundAround path (Some names) = (IsLookedAt globs path → IsForAll path → ⊥) × ((name : Text) → Contains names name ↔ (IsLookedAt globs path × IsNameAround path name))

    -- none of these paths that are looked at stands for all, and these are the names of the folders around them
    pub record AreNamesAround (paths names : List Text) : Type 0 where
      pub none : (path : Text) → Contains paths path → IsLookedAt globs path → IsForAll path → ⊥
      pub members : (name : Text) → Contains names name ↔ ((path : Text) × Contains paths path × IsLookedAt globs path × IsNameAround path name)

    -- what these paths come to
    abbrev pub ComesTo : List Text → Changed → Type 0
    ComesTo paths changed.All = (path : Text) × Contains paths path × IsLookedAt globs path × IsForAll path
    ComesTo paths (changed.Packages names) = AreNamesAround paths (texts names.items) × IsStrictlySortedBy text_cmp (texts names.items)
