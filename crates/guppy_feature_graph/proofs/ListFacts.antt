-- Labels of packages whose features are in a set.
use Rattle.std.proofs.Common.{◌≡◌, ◌≢◌, ◌∙◌, ◌↔◌, ◌||◌, ◌+◌, All, AllPairs, Any, Contains, IsTrue, IfOk, Result, Ok, Err, Some, append_assoc, subst, ◌<◌, ℕ, Bool, true, false, true≢false, cond, List, [], ◌∷◌, ◌++◌, ap, refl, sym, append-nil, filter, get_or, length, map, slice_get, take}
use Rattle.std.specs.List.{list_any}
use Rattle.std.specs.Str.{bytes_eq}
use Rattle.std.proofs.lemmas.List.{map-append, take_more}
use Rattle.std.proofs.lemmas.List.Elements.{All-map, filter-append}
use Rattle.std.proofs.lemmas.List.Quantifiers.{position-Some}
use Rattle.std.proofs.lemmas.Option.{get_or_from_slice_get}
use Rattle.std.proofs.lemmas.Slice.Eq.{bytes_eq-Decides}
use Rattle.list_facts.proofs.Lists.{map-map}
use Rattle.list_facts.proofs.Membership.{Contains-filter, Contains-filter_cases, Contains-map, Contains-none}
use Rattle.list_facts.proofs.Quantifiers.{All-from_Contains, Any-from_Contains, Any_cases, list_any-from_Contains, list_any-map, list_any_cases}
use Rattle.numbered_graph.specs.ListedViews.{in_direction}
use Rattle.numbered_graph.specs.Sets.{has}
use Rattle.numbered_graph.proofs.SetFacts.{has-within}
use Rattle.numbered_graph.specs.declared.direction.Direction.{Direction}
use Rattle.workspace_record.specs.Records.{FeatureEntry, Package, Text}
use Rattle.workspace_record.specs.Features.{Base, FeatureValue, LabelValue, Named}
use Rattle.guppy_package_table.specs.Tables.{TableValue, id_at, ids_of}
use Rattle.guppy_package_graph.specs.Finding.{IsAt}
use Rattle.guppy_package_graph.specs.SetValues as sets
use Rattle.guppy_package_graph.proofs.PlaceFacts.{turned}
use Rattle.guppy_feature_demands.specs.Nodes.{dep_of, features_of, named_of, nodes_of, number_of}
use Rattle.guppy_feature_nodes.specs.Graphs.{AreListed, FeatureGraphValue, feature_at}
use Rattle.guppy_feature_nodes.proofs.DistinctFacts.{nodes_differ, number_at}
use Rattle.guppy_feature_nodes.proofs.NodeFacts.{own_id}
use Rattle.std.specs.declared.alloc.AllocError.{AllocError}
use Rattle.guppy_feature_views.specs.Labels.{AreLabels, labels_of}
use Rattle.guppy_feature_views.specs.ListValues.{ListValue}
use Rattle.guppy_feature_graph.specs.FeaturesFor.{IsRowOf, ListEach, ListsAll, ListsAt, ListsThose, has_label, labels_in}
use Rattle.guppy_feature_graph.specs.PackageFeatures.{IsOfFeature, IsPackageSetOf, id_seen}
use Rattle.guppy_feature_graph.specs.Queries.{QueryValue}
use Rattle.guppy_feature_graph.specs.Sets.{SetValue}
use Rattle.std.proofs.lemmas.List.Folds.{list_any-append}

-- one of the elements of two lists that are seen as elements of one
pub any_of_both : {X Y Z : Type 0} (p : Z → Bool) (f : X → Z) (g : Y → Z) (xs : List X) (ys : List Y) → list_any p (map f xs ++ map g ys) ≡ (list_any (λ x. p (f x)) xs || list_any (λ y. p (g y)) ys)
any_of_both p f g xs ys =
    list_any-append p (map f xs) (map g ys) ∙ ap (λ b. b || list_any p (map g ys)) (list_any-map p f xs) ∙ ap (λ b. list_any (λ x. p (f x)) xs || b) (list_any-map p g ys)

-- of what is seen of elements, one more is kept or left
pub kept_label : {X Y : Type 0} (view : X → Y) (p : Y → Bool) (xs : List X) (i : ℕ) (d : X) (kept new : List X) (b : Bool) → i < length xs → b ≡ p (view (get_or xs i d)) → new ≡ cond b (kept ++ get_or xs i d ∷ []) kept → map view kept ≡ filter p (map view (take i xs)) → map view new ≡ filter p (map view (take (i + 1) xs))
kept_label view p xs i d kept new b lt is made before =
    ap (map view) made ∙ by b ∙ ap (λ t. filter p (map view (take i xs)) ++ cond t (view (get_or xs i d) ∷ []) []) is ∙ sym (filter-append p (map view (take i xs)) (view (get_or xs i d) ∷ [])) ∙ ap (filter p) (sym (map-append view (take i xs) (get_or xs i d ∷ []))) ∙ ap (λ ys. filter p (map view ys)) (sym (take_more xs i d lt))
  where
    by : (t : Bool) → map view (cond t (kept ++ get_or xs i d ∷ []) kept) ≡ filter p (map view (take i xs)) ++ cond t (view (get_or xs i d) ∷ []) []
    by true = map-append view kept (get_or xs i d ∷ []) ∙ ap (λ ys. ys ++ view (get_or xs i d) ∷ []) before
    by false = before ∙ sym (append-nil (filter p (map view (take i xs))))

none_kept : {X : Type 0} (p : X → Bool) (xs : List X) → list_any p xs ≡ false → filter p xs ≡ []
none_kept p [] h = refl
none_kept p (x ∷ xs) h = by (p x) (none_kept p xs) h
  where
    by : (b : Bool) → (list_any p xs ≡ false → filter p xs ≡ []) → (b || list_any p xs) ≡ false → cond b (x ∷ filter p xs) (filter p xs) ≡ []
    by true rest h = absurd (true≢false h)
    by false rest h = rest h

some_kept : {X : Type 0} (p : X → Bool) (xs : List X) (x : X) → Contains xs x → p x ≡ true → filter p xs ≢ []
some_kept p xs x among passes none = Contains-none x (subst (λ ys. Contains ys x) none (Contains-filter p xs x among passes))

-- the package has no feature in the set, or some
pub has_none : (s : SetValue) (row : Package) (answer : Bool) → answer ≡ list_any (has_label s row.id) (labels_of row) → answer ≡ false → labels_in s row ≡ []
has_none s row answer says fails = none_kept (has_label s row.id) (labels_of row) (sym says ∙ fails)

pub has_some : (s : SetValue) (row : Package) (answer : Bool) → answer ≡ list_any (has_label s row.id) (labels_of row) → answer ≡ true → labels_in s row ≢ []
has_some s row answer says holds =
    let found = list_any_cases (has_label s row.id) (labels_of row) (sym says ∙ holds) in
    some_kept (has_label s row.id) (labels_of row) found.0 found.1 found.2

pub same_row : (packages : List Package) (place : ℕ) (row other : Package) → slice_get packages place ≡ Some row → slice_get packages place ≡ Some other → row ≡ other
same_row packages place row other is are = sym (get_or_from_slice_get packages place row row is) ∙ get_or_from_slice_get packages place other row are

-- what was made of a package and labels
pub lists_at : (of : Package → List LabelValue) (t : TableValue) (place : ℕ) (row : Package) (labels : List LabelValue) (made : Result ListValue AllocError) → slice_get t.packages place ≡ Some row → labels ≡ of row → IfOk made (λ l. l.graph ≡ t) → IfOk made (λ l. l.place ≡ place) → IfOk made (λ l. AreLabels (Contains labels) l.labels) → IfOk made (ListsAt of t place)
lists_at of t place row labels (Ok list) is same graph at are = record { row = row; is_row = is; graph = graph; place = at; labels = subst (λ (ls : List LabelValue). AreLabels (Contains ls) list.labels) same are }
lists_at of t place row labels (Err refused) is same graph at are = tt

-- the list of the package at a place is that of the package with the id that is found there
list_row : (labels : Package → List LabelValue) (t : TableValue) (id : Text) (place : ℕ) (list : ListValue) → IsAt t id place → (h : ListsAt labels t place list) → IsRowOf t id list.place h.row
list_row labels t id place list at h = record { is_at = subst (IsAt t id) (sym h.place) at; is_row = subst (λ p. slice_get t.packages p ≡ Some h.row) (sym h.place) h.is_row }

pub lists_all : (t : TableValue) (id : Text) (place : ℕ) (list : ListValue) → IsAt t id place → ListsAt labels_of t place list → ListsAll t id list
lists_all t id place list at h = record { row = h.row; is_row = list_row labels_of t id place list at h; graph = h.graph; labels = h.labels }

pub lists_those : (s : SetValue) (id : Text) (place : ℕ) (list : ListValue) → IsAt s.graph.rows id place → (h : ListsAt (labels_in s) s.graph.rows place list) → labels_in s h.row ≢ [] → ListsThose s id list
lists_those s id place list at h some = record { row = h.row; is_row = list_row (labels_in s) s.graph.rows id place list at h; graph = h.graph; some = some; labels = h.labels }

-- the labels of a row's features are those that the row lists
row_labels : (row : Package) → map (λ (f : FeatureValue). f.label) (features_of row) ≡ labels_of row
row_labels row =
    let label : FeatureValue → LabelValue = λ f. f.label in
    ap (λ ls. Base ∷ ls) (map-append label (map (λ (e : FeatureEntry). named_of row.id e.name) row.features) (map (dep_of row.id) row.optional)
    ∙ ap (λ xs. xs ++ map label (map (dep_of row.id) row.optional)) (map-map label (λ (e : FeatureEntry). named_of row.id e.name) row.features)
    ∙ ap (λ xs. map (λ (e : FeatureEntry). Named e.name) row.features ++ xs) (map-map label (dep_of row.id) row.optional))

-- a package that has a feature in the set, by its graph and its place
abbrev pub IsOwn : SetValue → TableValue × ℕ → Type 0
IsOwn s m = (m.0 ≡ s.graph.rows) × IsOfFeature s m.1

-- it lists the feature's label
module _ (s : SetValue) (sized : length s.included ≡ length s.graph.nodes) (built : s.graph.nodes ≡ nodes_of s.graph.rows.packages) (listed : AreListed s.graph) where
  some_label : (place : ℕ) (row : Package) → IsOfFeature s place → slice_get s.graph.rows.packages place ≡ Some row → labels_in s row ≢ []
  some_label place row h is =
      let f = feature_at s.graph h.node in
      let lt : h.node < length s.graph.nodes = subst (λ n. h.node < n) sized (has-within s.included h.node h.is_in) in
      let stands : Contains (features_of row) f = listed h.node place row lt h.is_at is in
      let label : Contains (labels_of row) f.label = subst (λ ls. Contains ls f.label) (row_labels row) (Contains-map (λ (x : FeatureValue). x.label) (features_of row) f stands) in
      let number : number_of s.graph.nodes f ≡ h.node = number_at s.graph.nodes (subst (AllPairs (λ x y. x ≢ y)) (sym built) (nodes_differ s.graph.rows.packages)) h.node lt in
      let same : row.id ≡ f.package_id = own_id row f stands in
      some_kept (has_label s row.id) (labels_of row) f.label label (ap (λ id. has_label s id f.label) same ∙ ap (has s.included) number ∙ h.is_in)

  pub own_list : (m : TableValue × ℕ) (list : ListValue) → IsOwn s m → ListsAt (labels_in s) m.0 m.1 list → ListsThose s (id_seen m) list
  own_list m list own h =
      let rows = s.graph.rows in
      let id = (feature_at s.graph own.1.node).package_id in
      let here : id_at rows m.1 ≡ id = sym ((bytes_eq-Decides id (id_at rows m.1)).0 (position-Some (bytes_eq id) (ids_of rows.packages) m.1 [] own.1.is_at).1) in
      let at : IsAt rows (id_seen m) m.1 = subst (λ x. IsAt rows x m.1) (sym (ap (λ (t : TableValue). id_at t m.1) own.0 ∙ here)) own.1.is_at in
      let these : ListsAt (labels_in s) rows m.1 list = subst (λ (t : TableValue). ListsAt (labels_in s) t m.1 list) own.0 h in
      lists_those s (id_seen m) m.1 list at these (some_label m.1 these.row own.1 these.is_row)

pub all_own : (s : SetValue) (packages : sets.SetValue) (d : Direction) (t : TableValue) → IsPackageSetOf s.graph (IsOfFeature s) packages → t ≡ packages.graph → All (IsOwn s) (map (λ v. (t, v)) (in_direction d (sets.listed packages)))
all_own s packages d t are same =
    All-map (IsOwn s) (λ v. (t, v)) (in_direction d (sets.listed packages)) (turned d (λ v. IsOwn s (t, v)) (sets.listed packages) (All-from_Contains (λ v. IsOwn s (t, v)) (sets.listed packages) (λ v inside. (same ∙ are.graph, (are.members v).0 (Contains-filter_cases (has packages.included) packages.graph.listing v inside).1))))

-- part of the packages was listed
pub record IsListing (s : SetValue) (all : List Text) (left : List (TableValue × ℕ)) (lists : List ListValue) : Type 0 where
  pub ids : List Text
  pub each : ids ++ map id_seen left ≡ all
  pub listed : ListEach s ids lists

ListEach-push : (s : SetValue) (ids : List Text) (lists : List ListValue) (id : Text) (list : ListValue) → ListEach s ids lists → ListsThose s id list → ListEach s (ids ++ id ∷ []) (lists ++ list ∷ [])
ListEach-push s [] [] id list each last = (last, tt)
ListEach-push s [] (l ∷ ls) id list each last = absurd each
ListEach-push s (i ∷ is) [] id list each last = absurd each
ListEach-push s (i ∷ is) (l ∷ ls) id list each last = (each.0, ListEach-push s is ls id list each.1 last)

pub listing_none : (s : SetValue) (all : List Text) (left : List (TableValue × ℕ)) (lists : List ListValue) → map id_seen left ≡ all → lists ≡ [] → IsListing s all left lists
listing_none s all left lists is none = record { ids = []; each = is; listed = subst (ListEach s []) (sym none) tt }

pub listing_more : (s : SetValue) (all : List Text) (before after : List (TableValue × ℕ)) (m : TableValue × ℕ) (list : ListValue) (lists new : List ListValue) → before ≡ m ∷ after → new ≡ lists ++ list ∷ [] → ListsThose s (id_seen m) list → IsListing s all before lists → IsListing s all after new
listing_more s all before after m list lists new is pushed these was = record {
  ids = was.ids ++ id_seen m ∷ [];
  each = append_assoc was.ids (id_seen m ∷ []) (map id_seen after) ∙ ap (λ xs. was.ids ++ map id_seen xs) (sym is) ∙ was.each;
  listed = subst (ListEach s (was.ids ++ id_seen m ∷ [])) (sym pushed) (ListEach-push s was.ids lists (id_seen m) list was.listed these);
}

pub listing_all : (s : SetValue) (all : List Text) (left : List (TableValue × ℕ)) (lists : List ListValue) → left ≡ [] → IsListing s all left lists → ListEach s all lists
listing_all s all left lists none was = subst (λ xs. ListEach s xs lists) (sym (append-nil was.ids) ∙ ap (λ xs. was.ids ++ map id_seen xs) (sym none) ∙ was.each) was.listed

-- a label whose feature is an initial
pub starts_with : (q : QueryValue) (s : SetValue) (id : Text) (labels : List LabelValue) (answer : Bool) → s.graph ≡ q.graph → ((v : ℕ) → Contains q.initials v ↔ IsTrue (has s.included v)) → answer ≡ list_any (has_label s id) labels → IsTrue answer ↔ Any (λ l. Contains q.initials (number_of q.graph.nodes (record { package_id = id; label = l }))) labels
starts_with q s id labels answer graph members says = (there, back)
  where
    number : (l : LabelValue) → number_of s.graph.nodes (record { package_id = id; label = l }) ≡ number_of q.graph.nodes (record { package_id = id; label = l })
    number l = ap (λ (g : FeatureGraphValue). number_of g.nodes (record { package_id = id; label = l })) graph

    there : IsTrue answer → Any (λ l. Contains q.initials (number_of q.graph.nodes (record { package_id = id; label = l }))) labels
    there h =
        let found = list_any_cases (has_label s id) labels (sym says ∙ h) in
        Any-from_Contains (λ l. Contains q.initials (number_of q.graph.nodes (record { package_id = id; label = l }))) labels found.0 found.1 (subst (Contains q.initials) (number found.0) ((members (number_of s.graph.nodes (record { package_id = id; label = found.0 }))).1 found.2))

    back : Any (λ l. Contains q.initials (number_of q.graph.nodes (record { package_id = id; label = l }))) labels → IsTrue answer
    back h =
        let found = Any_cases (λ l. Contains q.initials (number_of q.graph.nodes (record { package_id = id; label = l }))) labels h in
        says ∙ list_any-from_Contains (has_label s id) labels found.0 found.1 ((members (number_of s.graph.nodes (record { package_id = id; label = found.0 }))).0 (subst (Contains q.initials) (sym (number found.0)) found.2))
