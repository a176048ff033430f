-- From the folders of packages to the packages.
use Rattle.std.proofs.Common.{◌≡◌, ℕ, ◌≤◌, List, [], length, refl, ◌∙◌, ◌↔◌, inl, inr, ⊎_elim, All, Contains, Some, Ok, slice_get}
use Rattle.workspace_record.specs.Records.{Package, Text}
use Rattle.guppy_package_rules.specs.Paths.{parts}
use Rattle.guppy_package_table.specs.Tables.{TableValue}
use Rattle.nextest_filter_matchers.specs.Globs.{Glob}
use Rattle.test_select_changes.specs.Changes.{BelongsTo, BelongsToName, Changes, HasFolder, IsWithin, LiesIn, StandsForAll}
use Rattle.test_select_changes.specs.Folders.{AreFolders, IsFolderAt, IsInnermost, NamedFolder}
use Rattle.test_select_changes.specs.Listings.{ComesTo, IsForAll, IsNameAround}
use Rattle.test_select_changes.specs.declared.changed.Changed.{Changed}
use Rattle.test_select_changes.specs.declared.changed.Changed.TheVariants as changed
use Rattle.test_select_changes.proofs.FolderFacts.{row_of_folder}

module _ (g : TableValue) (among : ℕ → Type 0) (folders : List NamedFolder) (are : AreFolders g among folders) where
  -- the package with an innermost folder is one to which the path belongs
  belongs : (path : Text) (folder : NamedFolder) (v : ℕ) → IsInnermost folders (parts path) folder → among v → IsFolderAt g v folder → BelongsTo g among path v
  belongs path folder v inner inside at = record { is_among = inside; folder = folder.parts; has = at.has; lies = inner.begins; longest = longest }
    where
      longest : (u : ℕ) (other : List Text) → among u → HasFolder g u other → LiesIn path other → length other ≤ length folder.parts
      longest u other inside has lies =
          let row = row_of_folder g u other has in
          let named : NamedFolder = record { parts = other; name = row.0.name } in
          inner.longest named ((are named).1 (u, inside, record { has = has; row = row.0; is_row = row.1; is_name = refl })) lies

  -- the folder by which the path belongs to a package, with the package's name
  named_by : (path : Text) (v : ℕ) → BelongsTo g among path v → (row : Package) → slice_get g.packages v ≡ Some row → (folder : NamedFolder) × IsInnermost folders (parts path) folder × (folder.name ≡ row.name)
  named_by path v b row is_row =
      let named : NamedFolder = record { parts = b.folder; name = row.name } in
      (named, record { among = (are named).1 (v, b.is_among, record { has = b.has; row = row; is_row = is_row; is_name = refl }); begins = b.lies; longest = longest }, refl)
    where
      longest : (other : NamedFolder) → Contains folders other → LiesIn path other.parts → length other.parts ≤ length b.folder
      longest other inside lies = let w = (are other).0 inside in b.longest w.0 other.parts w.1 w.2.has lies

  pub names_belong : (path name : Text) → IsNameAround folders path name ↔ BelongsToName g among path name
  names_belong path name = (there, back)
    where
      there : IsNameAround folders path name → BelongsToName g among path name
      there (folder, inner, is) =
          let w = (are folder).0 inner.among in
          record { place = w.0; belongs = belongs path folder w.0 inner w.1 w.2; row = w.2.row; is_row = w.2.is_row; is_name = w.2.is_name ∙ is }

      back : BelongsToName g among path name → IsNameAround folders path name
      back b = let n = named_by path b.place b.belongs b.row b.is_row in (n.0, n.1, n.2 ∙ b.is_name)

  pub stands_same : (path : Text) → IsForAll folders path ↔ StandsForAll g among path
  stands_same path = (there, back)
    where
      there : IsForAll folders path → StandsForAll g among path
      there h =
          ⊎_elim (λ none. inl (λ v b. let row = row_of_folder g v b.folder b.has in let n = named_by path v b row.0 row.1 in none n.0 n.1)) (λ named. inr ((names_belong path []).0 named)) h

      back : StandsForAll g among path → IsForAll folders path
      back h =
          ⊎_elim (λ none. inl (λ folder inner. let w = (are folder).0 inner.among in none w.0 (belongs path folder w.0 inner w.1 w.2))) (λ named. inr ((names_belong path []).1 named)) h

  -- what paths come to over the folders is what they come to over the graph
  pub changes_by : (globs : List Glob) (paths : List Text) (answer : Changed) → All IsWithin paths → ComesTo folders globs paths answer → Changes g among globs paths (Ok answer)
  changes_by globs paths changed.All within (path, inside, looked, stands) =
      (within, (path, inside, looked, (stands_same path).0 stands))
  changes_by globs paths (changed.Packages names) within (found, up) = (
    within,
    λ path inside looked stands. found.none path inside looked ((stands_same path).1 stands),
    record {
      members = λ name. (
        λ h. let w = (found.members name).0 h in (w.0, w.1, w.2, (names_belong w.0 name).0 w.3),
        λ h. (found.members name).1 (h.0, h.1, h.2, (names_belong h.0 name).1 h.3),
      );
      ascending = up;
    },
  )
