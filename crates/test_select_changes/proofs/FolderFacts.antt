-- The folders of packages, read one package after the other.
use Rattle.std.proofs.Common.{rules, ◌≡◌, ℕ, List, [], ◌∷◌, ◌++◌, map, refl, sym, subst, ap, ap₂, ◌∙◌, ◌↔◌, ◌⊎◌, inl, inr, ⊎_elim, Contains, Option, Some, None, slice_get, append_assoc, append-nil, IsPermutation}
use Rattle.std.proofs.lemmas.List.Sorted.{Contains-permutation, IsPermutation-sym}
use Rattle.list_facts.proofs.Membership.{Contains-first, Contains-none, Contains-cons_cases, Contains-append_left, Contains-append_right, Contains-append_cases}
use Rattle.workspace_record.specs.Records.{Package, Text}
use Rattle.guppy_package_parts.specs.Sources.{Source, Workspace, Path, External, source_of}
use Rattle.guppy_package_table.specs.Tables.{TableValue, member_path_at}
use Rattle.guppy_package_graph.specs.Sources.{IsSourceAt}
use Rattle.guppy_package_graph.specs.PackagesViews.{all_left, packages_graph_of, packages_left}
use Rattle.guppy_package_graph.specs.declared.packages.Packages.{Packages}
use Rattle.test_select_changes.specs.Changes.{HasFolder, member, beside}
use Rattle.test_select_changes.specs.Folders.{AreFolders, IsFolderAt, IsFolderOf, NamedFolder}
use Rattle.test_select_changes.proofs.PartFacts.{some_same}

-- a package comes from one place
same_source : (g : TableValue) (v : ℕ) (a b : Source) → IsSourceAt g v a → IsSourceAt g v b → a ≡ b
same_source g v a b at bt =
    let rows : at.row ≡ bt.row = some_same at.row bt.row (sym at.is_row ∙ bt.is_row) in
    at.is_source ∙ ap (λ (row : Package). source_of (member_path_at g v) row.info.source row.info.path) rows ∙ sym bt.is_source

module _ (g : TableValue) (v : ℕ) where
  has_folder : (source : Source) → IsSourceAt g v source → (folder : List Text) → HasFolder g v folder → IsFolderOf g.workspace.root source folder
  has_folder source at folder (member {path = path} from is) =
      subst (λ s. IsFolderOf g.workspace.root s folder) (same_source g v (Workspace path) source from at) (sym is)
  has_folder source at folder (beside {path = path} from below) =
      subst (λ s. IsFolderOf g.workspace.root s folder) (same_source g v (Path path) source from at) below

  folder_of : (source : Source) → IsSourceAt g v source → (folder : List Text) → IsFolderOf g.workspace.root source folder → HasFolder g v folder
  folder_of (Workspace path) at folder h = member at (sym h)
  folder_of (Path path) at folder h = beside at h
  folder_of (External text) at folder h = absurd h

  -- a package with a folder has a row
  pub row_of_folder : (folder : List Text) → HasFolder g v folder → (row : Package) × (slice_get g.packages v ≡ Some row)
  row_of_folder folder (member from is) = (from.row, from.is_row)
  row_of_folder folder (beside from below) = (from.row, from.is_row)

  module _ (source : Source) (at : IsSourceAt g v source) (root : Text) (rooted : root ≡ g.workspace.root) (answer : Option (List Text)) (is : (folder : List Text) → IsFolderOf root source folder ↔ (answer ≡ Some folder)) where
    answered : (folder : List Text) → HasFolder g v folder → answer ≡ Some folder
    answered folder has = (is folder).0 (subst (λ r. IsFolderOf r source folder) (sym rooted) (has_folder source at folder has))

    -- the one folder of the package, with its name
    pub one_folder : (row : Package) → slice_get g.packages v ≡ Some row → (found : List Text) → answer ≡ Some found → (one : NamedFolder) → one ≡ record { parts = found; name = row.name } → (folder : NamedFolder) → IsFolderAt g v folder ↔ (one ≡ folder)
    one_folder row is_row found some one made folder = (there, λ e. subst (IsFolderAt g v) (sym made ∙ e) here)
      where
        there : IsFolderAt g v folder → one ≡ folder
        there h =
            let same : found ≡ folder.parts = some_same found folder.parts (sym some ∙ answered folder.parts h.has) in
            let rows : row ≡ h.row = some_same row h.row (sym is_row ∙ h.is_row) in
            let called : row.name ≡ folder.name = ap (λ (r : Package). r.name) rows ∙ h.is_name in
            let named : List Text → Text → NamedFolder = λ (ps : List Text) (n : Text). record { parts = ps; name = n } in
            made ∙ ap₂ named same called

        here : IsFolderAt g v (record { parts = found; name = row.name })
        here = record {
          has = folder_of source at found (subst (λ r. IsFolderOf r source found) rooted ((is found).1 some));
          row = row;
          is_row = is_row;
          is_name = refl;
        }

    pub no_folder : answer ≡ None → (folder : NamedFolder) → IsFolderAt g v folder → ⊥
    no_folder none folder h = let some = answered folder.parts h.has in apart folder.parts (sym none ∙ some)
      where
        apart : (ps : List Text) → None ≡ Some ps → ⊥
        apart ps e = absurd cc

-- one more, and no other
pub pushed : {X : Type 0} (P : X → Type 0) (old new : List X) (f : X) → new ≡ old ++ f ∷ [] → ((x : X) → P x ↔ (f ≡ x)) → (x : X) → Contains new x ↔ (Contains old x ⊎ P x)
pushed P old new f is one x = (
  λ h. ⊎_elim (λ before. inl before) (λ last. ⊎_elim (λ e. inr ((one x).1 e)) (λ none. absurd (Contains-none x none)) (Contains-cons_cases f [] x last)) (Contains-append_cases old (f ∷ []) x (subst (λ xs. Contains xs x) is h)),
  λ h. subst (λ xs. Contains xs x) (sym is) (⊎_elim (λ before. Contains-append_left old (f ∷ []) x before) (λ p. Contains-append_right old (f ∷ []) x (subst (Contains (f ∷ [])) ((one x).0 p) (Contains-first f []))) h),
)

pub kept : {X : Type 0} (P : X → Type 0) (xs : List X) → ((x : X) → P x → ⊥) → (x : X) → Contains xs x ↔ (Contains xs x ⊎ P x)
kept P xs none x = (λ h. inl h, λ h. ⊎_elim (λ before. before) (λ p. absurd (none x p)) h)

-- the folders of the packages at the places before those that are left
pub record IsCollecting (g : TableValue) (all : List ℕ) (pairs : List (TableValue × ℕ)) (folders : List NamedFolder) : Type 0 where
  pub left : List ℕ
  pub done : List ℕ
  pub is_left : pairs ≡ map (λ v. (g, v)) left
  pub whole : done ++ left ≡ all
  pub each : (folder : NamedFolder) → Contains folders folder ↔ ((v : ℕ) × Contains done v × IsFolderAt g v folder)

pub begins : (g : TableValue) (all : List ℕ) (pairs : List (TableValue × ℕ)) (folders : List NamedFolder) → pairs ≡ map (λ v. (g, v)) all → folders ≡ [] → IsCollecting g all pairs folders
begins g all pairs folders e none = record {
  left = all;
  done = [];
  is_left = e;
  whole = refl;
  each = λ folder. (λ h. absurd (Contains-none folder (subst (λ fs. Contains fs folder) none h)), λ h. absurd (Contains-none h.0 h.1));
}

abbrev head_or : {A : Type 0} → A → List A → A
head_or d [] = d
head_or d (x ∷ xs) = x

abbrev rest_of : {A : Type 0} → List A → List A
rest_of [] = []
rest_of (x ∷ xs) = xs

-- the packages that are left are of the graph
pub same_graph : (g : TableValue) (all : List ℕ) (pairs rest : List (TableValue × ℕ)) (folders : List NamedFolder) (h : TableValue) (v : ℕ) → IsCollecting g all pairs folders → pairs ≡ (h, v) ∷ rest → g ≡ h
same_graph g all pairs rest folders h v was steps = by was.left was.is_left
  where
    by : (left : List ℕ) → pairs ≡ map (λ v. (g, v)) left → g ≡ h
    by [] e = absurd (search rules)
    by (x ∷ xs) e =
        let same : (g, x) ∷ map (λ v. (g, v)) xs ≡ (h, v) ∷ rest = sym e ∙ steps in
        ap (λ (ps : List (TableValue × ℕ)). (head_or (h, v) ps).0) same

pub collects : (g : TableValue) (all : List ℕ) (pairs rest : List (TableValue × ℕ)) (old new : List NamedFolder) (h : TableValue) (v : ℕ) → IsCollecting g all pairs old → pairs ≡ (h, v) ∷ rest → ((folder : NamedFolder) → Contains new folder ↔ (Contains old folder ⊎ IsFolderAt h v folder)) → IsCollecting g all rest new
collects g all pairs rest old new h v was steps adds = by was.left was.is_left was.whole
  where
    by : (left : List ℕ) → pairs ≡ map (λ v. (g, v)) left → was.done ++ left ≡ all → IsCollecting g all rest new
    by [] e whole = absurd (search rules)
    by (x ∷ xs) e whole = record {
      left = xs;
      done = was.done ++ x ∷ [];
      is_left = sym (ap rest_of same);
      whole = append_assoc was.done (x ∷ []) xs ∙ whole;
      each = λ folder. (there folder, back folder);
    }
      where
        same : (g, x) ∷ map (λ v. (g, v)) xs ≡ (h, v) ∷ rest
        same = sym e ∙ steps

        pair : ◌≡◌ {A = TableValue × ℕ} (g, x) (h, v)
        pair = ap (head_or (h, v)) same

        here : (folder : NamedFolder) → IsFolderAt h v folder → IsFolderAt g x folder
        here folder = subst (λ (q : TableValue × ℕ). IsFolderAt q.0 q.1 folder) (sym pair)

        there : (folder : NamedFolder) → Contains new folder → (u : ℕ) × Contains (was.done ++ x ∷ []) u × IsFolderAt g u folder
        there folder k =
            ⊎_elim (λ before. let w = (was.each folder).0 before in (w.0, Contains-append_left was.done (x ∷ []) w.0 w.1, w.2)) (λ at. (x, Contains-append_right was.done (x ∷ []) x (Contains-first x []), here folder at)) ((adds folder).0 k)

        late : (folder : NamedFolder) (u : ℕ) → Contains (x ∷ []) u → IsFolderAt g u folder → IsFolderAt h v folder
        late folder u k at =
            ⊎_elim (λ is. subst (λ (q : TableValue × ℕ). IsFolderAt q.0 q.1 folder) pair (subst (λ w. IsFolderAt g w folder) (sym is) at)) (λ none. absurd (Contains-none u none)) (Contains-cons_cases x [] u k)

        back : (folder : NamedFolder) → ((u : ℕ) × Contains (was.done ++ x ∷ []) u × IsFolderAt g u folder) → Contains new folder
        back folder (u, k, at) =
            (adds folder).1 (⊎_elim (λ before. inl ((was.each folder).1 (u, before, at))) (λ last. inr (late folder u last at)) (Contains-append_cases was.done (x ∷ []) u k))

-- once no package is left, the folders are those of the packages that pass
pub collected : (g : TableValue) (passes : ℕ → Type 0) (all : List ℕ) (pairs : List (TableValue × ℕ)) (folders : List NamedFolder) → IsCollecting g all pairs folders → pairs ≡ [] → ((v : ℕ) → Contains all v ↔ passes v) → AreFolders g passes folders
collected g passes all pairs folders was none each folder = (
  λ h. let w = (was.each folder).0 h in (w.0, (each w.0).0 (subst (λ vs. Contains vs w.0) whole w.1), w.2),
  λ h. (was.each folder).1 (h.0, subst (λ vs. Contains vs h.0) (sym whole) ((each h.0).1 h.1), h.2),
)
  where
    no_left : (left : List ℕ) → pairs ≡ map (λ v. (g, v)) left → left ≡ []
    no_left [] e = refl
    no_left (x ∷ xs) e = absurd (search rules)

    whole : was.done ≡ all
    whole = sym (append-nil was.done) ∙ ap (λ left. was.done ++ left) (sym (no_left was.left was.is_left)) ∙ was.whole

pub left_as : (p : Packages) (g : TableValue) (vs : List ℕ) → packages_graph_of p ≡ g → packages_left p ≡ vs → all_left p ≡ map (λ v. (g, v)) vs
left_as p g vs eg el = ap₂ (λ (h : TableValue) (us : List ℕ). map (λ v. (h, v)) us) eg el

-- the same folders in another order
pub folders_moved : (g : TableValue) (among : ℕ → Type 0) (folders moved : List NamedFolder) → IsPermutation folders moved → AreFolders g among folders → AreFolders g among moved
folders_moved g among folders moved turn are folder = (
  λ h. (are folder).0 (Contains-permutation moved folders folder (IsPermutation-sym folders moved turn) h),
  λ h. Contains-permutation folders moved folder turn ((are folder).1 h),
)
