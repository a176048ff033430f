-- Contexts that are filled package by package.
use Rattle.std.proofs.Common.{rules, ◌≡◌, ◌∙◌, ◌↔◌, IsTrue, refl, sym, ap, ap₂, subst, append_assoc, append-nil, ℕ, List, [], ◌∷◌, ◌++◌, map, flat_map, Contains, Option, Some, None, slice_get}
use Rattle.list_facts.proofs.Membership.{Contains-map, Contains-map_cases}
use Rattle.list_facts.proofs.Lists.{flat_map-append}
use Rattle.workspace_record.specs.Records.{Package, Text}
use Rattle.numbered_graph.specs.Sets.{has}
use Rattle.guppy_package_table.specs.Tables.{TableValue}
use Rattle.guppy_package_graph.specs.PackagesViews.{all_left, packages_graph_of, packages_left}
use Rattle.guppy_package_graph.specs.SetValues.{IsSetOf, SetValue}
use Rattle.guppy_package_graph.specs.declared.packages.Packages.{Packages}
use Rattle.nextest_filtering.specs.Contexts.{AreRowsAt, IsContextOf, binaries_of, features_of}
use Rattle.nextest_filtering.specs.ContextViews.{AreNamesOf, packages_in, binaries_in, features_in}
use Rattle.nextest_filtering.specs.declared.context_names.ContextNames.{ContextNames}

pub map-append : {A B : Type 0} (f : A → B) (xs ys : List A) → map f (xs ++ ys) ≡ map f xs ++ map f ys
map-append f [] ys = refl
map-append f (x ∷ xs) ys = ap (λ t. f x ∷ t) (map-append f xs ys)

abbrev head_or : {A : Type 0} → A → List A → A
head_or d [] = d
head_or d (x ∷ xs) = x

abbrev rest_of : {A : Type 0} → List A → List A
rest_of [] = []
rest_of (x ∷ xs) = xs

-- the pairs that are still to come are those of places of the graph
pub IsLeft : TableValue → List ℕ → List (TableValue × ℕ) → Type 0
IsLeft g left pairs = pairs ≡ map (λ v. (g, v)) left

-- the packages at the places before those that are left were added
pub record IsAdding (g : TableValue) (all : List ℕ) (pairs : List (TableValue × ℕ)) (names : ContextNames) : Type 0 where
  pub left : List ℕ
  pub is_left : pairs ≡ map (λ v. (g, v)) left
  pub rows : List Package
  pub seen : map Some rows ++ map (slice_get g.packages) left ≡ map (slice_get g.packages) all
  pub named : packages_in names ≡ map (λ (p : Package). (p.id, p.name)) rows
  pub built : binaries_in names ≡ flat_map binaries_of rows
  pub featured : features_in names ≡ flat_map features_of rows

pub starts : (g : TableValue) (all : List ℕ) (pairs : List (TableValue × ℕ)) (names : ContextNames) → pairs ≡ map (λ v. (g, v)) all → packages_in names ≡ [] → binaries_in names ≡ [] → features_in names ≡ [] → IsAdding g all pairs names
starts g all pairs names e named built featured = record { left = all; is_left = e; rows = []; seen = refl; named = named; built = built; featured = featured }

pub adds : (g : TableValue) (all : List ℕ) (pairs rest : List (TableValue × ℕ)) (old new : ContextNames) (h : TableValue) (v : ℕ) → IsAdding g all pairs old → pairs ≡ (h, v) ∷ rest →
    ((p : Package) × (slice_get h.packages v ≡ Some p) × (packages_in new ≡ packages_in old ++ (p.id, p.name) ∷ []) × (binaries_in new ≡ binaries_in old ++ binaries_of p) × (features_in new ≡ features_in old ++ features_of p)) → IsAdding g all rest new
adds g all pairs rest old new h v was steps (p, at, named, built, featured) = by was.left was.is_left was.seen
  where
    by : (left : List ℕ) → pairs ≡ map (λ v. (g, v)) left → map Some was.rows ++ map (slice_get g.packages) left ≡ map (slice_get g.packages) all → IsAdding g all rest new
    by [] e seen = absurd (search rules)
    by (x ∷ xs) e seen =
        let same : (g, x) ∷ map (λ v. (g, v)) xs ≡ (h, v) ∷ rest = sym e ∙ steps in
        let pair : (g, x) ≡ (h, v) = ap (head_or (h, v)) same in
        let at_x : slice_get g.packages x ≡ Some p = ap (λ (q : TableValue × ℕ). slice_get q.0.packages q.1) pair ∙ at in
        record {
          left = xs;
          is_left = sym (ap rest_of same);
          rows = was.rows ++ p ∷ [];
          seen = ap (λ ys. ys ++ map (slice_get g.packages) xs) (map-append Some was.rows (p ∷ [])) ∙ append_assoc (map Some was.rows) (Some p ∷ []) (map (slice_get g.packages) xs) ∙ ap (λ o. map Some was.rows ++ o ∷ map (slice_get g.packages) xs) (sym at_x) ∙ seen;
          named = named ∙ ap (λ ys. ys ++ (p.id, p.name) ∷ []) was.named ∙ sym (map-append (λ (p : Package). (p.id, p.name)) was.rows (p ∷ []));
          built = built ∙ ap (λ ys. ys ++ binaries_of p) was.built ∙ ap (λ ys. flat_map binaries_of was.rows ++ ys) (sym (append-nil (binaries_of p))) ∙ sym (flat_map-append binaries_of was.rows (p ∷ []));
          featured = featured ∙ ap (λ ys. ys ++ features_of p) was.featured ∙ ap (λ ys. flat_map features_of was.rows ++ ys) (sym (append-nil (features_of p))) ∙ sym (flat_map-append features_of was.rows (p ∷ []));
        }

abbrev value_or : {A : Type 0} → A → Option A → A
value_or d (Some x) = x
value_or d None = d

some_same : {A : Type 0} (d a b : A) → Some a ≡ Some b → a ≡ b
some_same d a b e = ap (value_or d) e

-- once no package is left, the rows are those at the places
pub added : (g : TableValue) (passes : ℕ → Type 0) (all : List ℕ) (pairs : List (TableValue × ℕ)) (names : ContextNames) → IsAdding g all pairs names → pairs ≡ [] → ((v : ℕ) → Contains all v ↔ passes v) → AreNamesOf g passes names
added g passes all pairs names was none each = record { rows = was.rows; are_rows = rows_at; named = was.named; built = was.built; featured = was.featured }
  where
    no_left : (left : List ℕ) → pairs ≡ map (λ v. (g, v)) left → left ≡ []
    no_left [] e = refl
    no_left (x ∷ xs) e = absurd (search rules)

    whole : map Some was.rows ≡ map (slice_get g.packages) all
    whole = sym (append-nil (map Some was.rows)) ∙ ap (λ left. map Some was.rows ++ map (slice_get g.packages) left) (sym (no_left was.left was.is_left)) ∙ was.seen

    there : (p : Package) → Contains was.rows p → (v : ℕ) × passes v × (slice_get g.packages v ≡ Some p)
    there p h =
        let in_map = subst (λ ys. Contains ys (Some p)) whole (Contains-map Some was.rows p h) in
        let q = Contains-map_cases (slice_get g.packages) all (Some p) in_map in
        (q.0, (each q.0).0 q.1, q.2)

    back : (p : Package) → ((v : ℕ) × passes v × (slice_get g.packages v ≡ Some p)) → Contains was.rows p
    back p (v, pass, at) =
        let in_map : Contains (map (slice_get g.packages) all) (Some p) = subst (λ o. Contains (map (slice_get g.packages) all) o) at (Contains-map (slice_get g.packages) all v ((each v).1 pass)) in
        let q = Contains-map_cases Some was.rows (Some p) (subst (λ ys. Contains ys (Some p)) (sym whole) in_map) in
        subst (Contains was.rows) (some_same p q.0 p q.2) q.1

    rows_at : AreRowsAt g passes was.rows
    rows_at p = (there p, back p)

pub left_as : (p : Packages) (g : TableValue) (vs : List ℕ) → packages_graph_of p ≡ g → packages_left p ≡ vs → all_left p ≡ map (λ v. (g, v)) vs
left_as p g vs eg el = ap₂ (λ (h : TableValue) (us : List ℕ). map (λ v. (h, v)) us) eg el

pub context_as : (g : TableValue) (passes : ℕ → Type 0) (s : SetValue) (names : ContextNames) (on : List (Text × Text)) → IsSetOf g passes s → AreNamesOf s.graph (λ v. IsTrue (has s.included v)) names →
    IsContextOf g g passes (record { graph = g; packages = packages_in names; binaries = binaries_in names; features = features_in names; on = on })
context_as g passes s names on set were = record { graph = refl; rows = were.rows; are_rows = rows_at; named = were.named; built = were.built; featured = were.featured }
  where
    rows_at : AreRowsAt g passes were.rows
    rows_at p = (
      λ h. let q = (were.are_rows p).0 h in (q.0, (set.members q.0).0 q.1, subst (λ (t : TableValue). slice_get t.packages q.0 ≡ Some p) set.graph q.2),
      λ (v, pass, at). (were.are_rows p).1 (v, (set.members v).1 pass, subst (λ (t : TableValue). slice_get t.packages v ≡ Some p) (sym set.graph) at),
    )
