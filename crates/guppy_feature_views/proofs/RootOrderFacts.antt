-- The order of roots, as it is sorted by: the places of packages, then labels.
use Rattle.std.proofs.Common.{◌≡◌, ◌≢◌, ℕ, ◌+◌, ◌<◌, Bool, true, false, not, List, [], ◌∷◌, ◌++◌, Contains, length, get_or, take, map, nat_eq, refl, sym, subst, ap, ◌∙◌, true≢false, arith, All, AllPairs, IsPermutation, IsSorted, Ordering, Less, Equal, Greater}
use Rattle.std.specs.Cmp.{IsTotalOrder, both_tied, nat_cmp_total, on_total, then_total, unsigned_Decides, unsigned_ties}
use Rattle.std.specs.Cmp.Lexicographic.{texts_ties}
use Rattle.std.specs.Ordering.{is_eq, is_lt, nat_cmp, on, ordering_reverse, ordering_then, then_cmp}
use Rattle.std.specs.Str.{bytes_eq}
use Rattle.std.proofs.lemmas.Bool.Decides.{nat_tests}
use Rattle.std.proofs.lemmas.List.{get_or-map, length-map, map-append}
use Rattle.std.proofs.lemmas.List.Elements.{Contains-get_or}
use Rattle.std.proofs.lemmas.List.Sorted.{All-permutation, IsPermutation-map, length_permutation, ranks_by, sorted_far}
use Rattle.std.proofs.lemmas.List.Sums.{prefix_len_stops}
use Rattle.std.proofs.lemmas.Map.Keys.{IsDistinct-IsPermutation}
use Rattle.std.proofs.lemmas.Map.Made.{AllPairs-from_IsDistinct, IsDistinct-from_AllPairs}
use Rattle.std.proofs.lemmas.Slice.Eq.{bytes_eq-Decides}
use Rattle.list_facts.proofs.Lists.{map-take_more}
use Rattle.workspace_record.specs.Equality.{equivalence}
use Rattle.workspace_record.specs.Features.{LabelValue, label_cmp, label_cmp_total, label_kind, label_name, labels_decide}
use Rattle.workspace_record.specs.Records.{Text}
use Rattle.guppy_package_table.specs.Tables.{ids_of, place_among}
use Rattle.guppy_package_table.proofs.Places.{ends_before}
use Rattle.guppy_feature_demands.specs.Nodes.{base_of, nodes_of}
use Rattle.guppy_feature_nodes.proofs.DistinctFacts.{nodes_differ}
use Rattle.guppy_feature_nodes.proofs.NodeFacts.{node_package}
use Rattle.guppy_feature_nodes.specs.Graphs.{FeatureGraphValue, feature_at}
use Rattle.guppy_feature_demands.specs.declared.feature_label.FeatureLabel.TheVariants as code
use Rattle.guppy_feature_views.specs.RootOrder.{Ascend, package_place, root_cmp}
use Rattle.guppy_feature_views.specs.RootPlaces.{PlaceValue, place_at, place_view}
use Rattle.guppy_feature_views.specs.contracts.root_order.RootPlaceOrd.TheImpl as order
use Rattle.guppy_feature_views.specs.declared.root_order.RootPlace.{RootPlace}

-- one element more of what is seen
pub values_more : {X Y A : Type 0} (view : X → Y) (f : A → Y) (xs : List A) (i : ℕ) (d : A) → i < length xs → (old new : List X) (x : X) → map view old ≡ map f (take i xs) → view x ≡ f (get_or xs i d) → new ≡ old ++ x ∷ [] → map view new ≡ map f (take (i + 1) xs)
values_more view f xs i d lt old new x before seen pushed =
    ap (map view) pushed ∙ map-append view old (x ∷ []) ∙ (λ j. before j ++ seen j ∷ []) ∙ sym (map-take_more f xs i d lt)

tied : (a b : ℕ) → nat_cmp a b ≡ Equal → a ≡ b
tied a b h = grind (arith, nat_tests, h)

less : (a b : ℕ) → nat_cmp a b ≡ Less → a < b
less a b h = grind (arith, nat_tests, h)

same_label : (l m : LabelValue) → label_cmp l m ≡ Equal → l ≡ m
same_label l m tie =
    (labels_decide l m).0 (both_tied _ _ _ _ (unsigned_ties (label_kind l) (label_kind m)) (texts_ties (label_name l) (label_name m)) ∙ ap is_eq tie)

not_not : (b : Bool) → not b ≡ false → b ≡ true
not_not true e = refl
not_not false e = sym e

-- what stands at the place of an id is that id
at_place : (ids : List Text) (id : Text) → Contains ids id → id ≡ get_or ids (place_among ids id) []
at_place ids id (k, lt, is) =
    let before = ends_before (bytes_eq id) ids k id lt ((bytes_eq-Decides id (get_or ids k id)).1 (sym is)) in
    (bytes_eq-Decides id (get_or ids (place_among ids id) [])).0 (not_not _ (prefix_len_stops (λ x. not (bytes_eq id x)) ids [] before))

abbrev no_place : RootPlace
no_place = record { place = 0; label = code.Base; node = 0 }

abbrev pub node_of : RootPlace → ℕ
node_of p = p.node

by_views : (ps : List RootPlace) → map node_of ps ≡ map (λ (p : PlaceValue). p.node) (map place_view ps)
by_views [] = refl
by_views (p ∷ ps) = ap (λ ns. p.node ∷ ns) (by_views ps)

-- the order of the code
abbrev code_order : RootPlace → RootPlace → Ordering
code_order = (order.ghosts).cmp

-- by place, then by label, then by number
abbrev by_place : PlaceValue → PlaceValue → Ordering
by_place = then_cmp (on (λ p. p.place) nat_cmp) (then_cmp (on (λ p. p.label) label_cmp) (on (λ p. p.node) nat_cmp))

place_total : IsTotalOrder by_place
place_total =
    then_total (on_total (λ p. p.place) nat_cmp_total) (then_total (on_total (λ p. p.label) label_cmp_total) (on_total (λ p. p.node) nat_cmp_total))

order_seen : (p q : RootPlace) → code_order p q ≡ by_place (place_view p) (place_view q)
order_seen p q = refl

-- where the last comparison does not count, the first two tell
told : (o l n : Ordering) → ordering_then o (ordering_then l n) ≡ Less → (o ≡ Equal → l ≡ Equal → n ≡ Less → ⊥) → ordering_then o l ≡ Less
told Less l n h never = refl
told Equal Less n h never = refl
told Equal Equal n h never = absurd (never refl refl h)
told Equal Greater n h never = h
told Greater l n h never = h

not_after : (o r : Ordering) → o ≡ ordering_reverse r → is_lt r ≡ false → o ≢ Equal → o ≡ Less
not_after Less r e n differ = refl
not_after Equal r e n differ = absurd (differ refl)
not_after Greater Less e n differ = absurd (true≢false n)
not_after Greater Equal e n differ = absurd cc
not_after Greater Greater e n differ = absurd cc

last_tied : (o l n : Ordering) → ordering_then o (ordering_then l n) ≡ Equal → n ≡ Equal
last_tied Less l n h = absurd cc
last_tied Equal Less n h = absurd cc
last_tied Equal Equal n h = h
last_tied Equal Greater n h = absurd cc
last_tied Greater l n h = absurd cc

module _ (g : FeatureGraphValue) where
  by_numbers : (ns : List ℕ) → map (λ (p : PlaceValue). p.node) (map (place_at g) ns) ≡ ns
  by_numbers [] = refl
  by_numbers (n ∷ ns) = ap (λ ms. n ∷ ms) (by_numbers ns)

  module _ (nodes : List ℕ) (places sorted : List RootPlace) (made : map place_view places ≡ map (place_at g) nodes) where
    sized : length places ≡ length nodes
    sized = sym (length-map places place_view) ∙ ap length made ∙ length-map nodes (place_at g)

    made_nodes : map node_of places ≡ nodes
    made_nodes = by_views places ∙ ap (map (λ (p : PlaceValue). p.node)) made ∙ by_numbers nodes

    -- the same nodes in another order
    pub moved_nodes : IsPermutation places sorted → IsPermutation nodes (map node_of sorted)
    moved_nodes moved = subst (λ ns. IsPermutation ns (map node_of sorted)) made_nodes (IsPermutation-map node_of places sorted moved)

  -- of none there is none in another order
  pub none_ascend : (places sorted : List RootPlace) → places ≡ [] → IsPermutation places sorted → Ascend g (map node_of sorted)
  none_ascend places sorted none moved i j d before lt =
      let all : length sorted ≡ length places = length_permutation places sorted moved in
      absurd (omega (arith, lt, length-map sorted node_of, all, ap length none))

module _ (g : FeatureGraphValue) (are : g.nodes ≡ nodes_of g.rows.packages) where
  abbrev ids : List Text
  ids = ids_of g.rows.packages

  abbrev id_of : ℕ → Text
  id_of v = (feature_at g v).package_id

  at : (v : ℕ) → v < length g.nodes → id_of v ≡ get_or ids (package_place g v) []
  at v lt =
      at_place ids (id_of v) (node_package g.rows.packages (feature_at g v) (subst (λ ns. Contains ns (feature_at g v)) are (Contains-get_or g.nodes v (base_of []) lt)))

  same_feature : (u v : ℕ) → u < length g.nodes → v < length g.nodes → package_place g u ≡ package_place g v → (feature_at g u).label ≡ (feature_at g v).label → feature_at g u ≡ feature_at g v
  same_feature u v ult vlt place label =
      let id = at u ult ∙ ap (λ n. get_or ids n []) place ∙ sym (at v vlt) in
      λ i. record { package_id = id i; label = label i }

  differ : (u v : ℕ) → u < v → v < length g.nodes → feature_at g u ≢ feature_at g v
  differ u v before lt = subst (AllPairs (λ x y. x ≢ y)) (sym are) (nodes_differ g.rows.packages) u v (base_of []) before lt

  below : (u v : ℕ) → u < length g.nodes → v < length g.nodes → by_place (place_at g u) (place_at g v) ≡ Less → root_cmp g u v ≡ Less
  below u v ult vlt h =
      let labels = label_cmp (feature_at g u).label (feature_at g v).label in
      told (nat_cmp (package_place g u) (package_place g v)) labels (nat_cmp u v) h (λ place label node. differ u v (less u v node) vlt (same_feature u v ult vlt (tied _ _ place) (same_label _ _ label)))

  module _ (nodes : List ℕ) (places sorted : List RootPlace) (made : map place_view places ≡ map (place_at g) nodes) (within : All (λ v. v < length g.nodes) nodes) (rising : AllPairs (λ u v. u < v) nodes) where
    seen_at : (i : ℕ) (d : RootPlace) → i < length places → place_view (get_or places i d) ≡ place_at g (get_or nodes i 0)
    seen_at i d lt =
        sym (get_or-map place_view places i d (place_view d) lt) ∙ ap (λ ps. get_or ps i (place_view d)) made ∙ get_or-map (place_at g) nodes i 0 (place_view d) (subst (λ n. i < n) (sized g nodes places sorted made) lt)

    abbrev IsPlaced : RootPlace → Type 0
    IsPlaced p = (place_view p ≡ place_at g p.node) × (p.node < length g.nodes)

    placed : All IsPlaced places
    placed i d lt =
        let seen = seen_at i d lt in
        let node = ap (λ (p : PlaceValue). p.node) seen in
        (seen ∙ ap (place_at g) (sym node), subst (λ v. v < length g.nodes) (sym node) (within i 0 (subst (λ n. i < n) (sized g nodes places sorted made) lt)))

    nodes_apart : IsPermutation places sorted → AllPairs (λ u v. u ≢ v) (map node_of sorted)
    nodes_apart moved =
        AllPairs-from_IsDistinct unsigned_Decides (map node_of sorted) (IsDistinct-IsPermutation nat_eq (equivalence unsigned_Decides).symm nodes (map node_of sorted) (moved_nodes g nodes places sorted made moved) (IsDistinct-from_AllPairs unsigned_Decides nodes (λ i j d before lt same. let up = rising i j d before lt in omega (arith, up, same))))

    pub nodes_ascend : IsPermutation places sorted → IsSorted code_order sorted → Ascend g (map node_of sorted)
    nodes_ascend moved order i j d before lt =
        let small_j : j < length sorted = subst (λ n. j < n) (length-map sorted node_of) lt in
        let small_i : i < length sorted = omega (arith, before, small_j) in
        let p = get_or sorted i no_place in
        let q = get_or sorted j no_place in
        let is_p = get_or-map node_of sorted i no_place d small_i in
        let is_q = get_or-map node_of sorted j no_place d small_j in
        let total = on_total place_view place_total in
        let far = sorted_far _ (ranks_by total (λ (x : RootPlace). x)) sorted (subst (λ R. IsSorted R sorted) (λ k a b. order_seen a b k) order) i j no_place (omega (arith, before)) small_j in
        let up = not_after _ _ (total.antisymm p q) far (λ tie. nodes_apart moved i j d before lt (is_p ∙ tied _ _ (last_tied _ _ _ tie) ∙ sym is_q)) in
        let kept = All-permutation IsPlaced places sorted moved placed in
        let at_p = kept i no_place small_i in
        let at_q = kept j no_place small_j in
        let under = below p.node q.node at_p.1 at_q.1 ((λ k. by_place (sym at_p.0 k) (sym at_q.0 k)) ∙ up) in
        subst (λ u. root_cmp g u (get_or (map node_of sorted) j d) ≡ Less) (sym is_p) (subst (λ v. root_cmp g p.node v ≡ Less) (sym is_q) under)
