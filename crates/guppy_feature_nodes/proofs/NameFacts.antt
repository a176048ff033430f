-- Nodes that are kept by the places of their packages are found as features are.
use Rattle.std.proofs.Common.{◌≡◌, ◌≢◌, ℕ, ◌<◌, ◌+◌, Bool, true, false, not, cond, ◌||◌, nat_lt, List, [], ◌∷◌, ◌++◌, AllPairs, Contains, Some, None, length, get_or, map, take, position, refl, sym, subst, ap, ◌∙◌, arith}
use Rattle.std.specs.List.{list_any, position_or_len}
use Rattle.std.specs.Str.{bytes_eq}
use Rattle.std.proofs.lemmas.Bool.Decides.{nat_tests}
use Rattle.std.proofs.lemmas.List.{get_or-map, get_or-take, length-map, length-take-le, map-append, take-map}
use Rattle.std.proofs.lemmas.List.Elements.{Contains-get_or}
use Rattle.std.proofs.lemmas.List.Quantifiers.{position-Some}
use Rattle.std.proofs.lemmas.List.Sums.{prefix_len_stops}
use Rattle.std.proofs.lemmas.Slice.Eq.{bytes_eq-Decides}
use Rattle.list_facts.proofs.Lists.{map-take_more}
use Rattle.list_facts.proofs.Membership.{Contains-first, Contains-rest}
use Rattle.list_facts.proofs.Quantifiers.{list_any_cases}
use Rattle.indexmap.specs.IndexSet.{insert_key}
use Rattle.workspace_record.specs.Features.{FeatureValue, feature_eq, features_decide}
use Rattle.workspace_record.specs.Records.{Package, Text}
use Rattle.guppy_package_table.specs.Tables.{ids_of, place_among}
use Rattle.guppy_package_table.proofs.Places.{ends_before}
use Rattle.guppy_feature_demands.specs.Nodes.{is_node, nodes_of, number_of}
use Rattle.guppy_feature_nodes.specs.NodeNames.{NodeValue, node_eq, node_of, nodes_decide}
use Rattle.guppy_feature_nodes.proofs.NodeFacts.{node_package}

same_answer : (s t : Bool) → (s ≡ true → t ≡ true) → (t ≡ true → s ≡ true) → s ≡ t
same_answer true t there back = sym (there refl)
same_answer false true there back = back refl
same_answer false false there back = refl

opposite : (b : Bool) → not b ≡ false → b ≡ true
opposite true e = refl
opposite false e = sym e

has_place : (b : Bool) → (b ≡ true → ⊥) → b ≡ false
has_place true none = absurd (none refl)
has_place false none = refl

-- a place before the end is one that was found
found_by : (n m : ℕ) → n < m → cond (nat_lt n m) (Some n) None ≡ Some n
found_by n m lt = grind (arith, nat_tests, lt)

module _ (ids : List Text) where
  place_before : (id : Text) → Contains ids id → place_among ids id < length ids
  place_before id (k, lt, is) = ends_before (bytes_eq id) ids k id lt ((bytes_eq-Decides id (get_or ids k id)).1 (sym is))

  pub place_found : (id : Text) → Contains ids id → (position (bytes_eq id) ids ≡ Some (place_among ids id)) × (place_among ids id < length ids)
  place_found id known = (found_by (place_among ids id) (length ids) (place_before id known), place_before id known)

  id_there : (id : Text) → place_among ids id < length ids → get_or ids (place_among ids id) [] ≡ id
  id_there id lt = sym ((bytes_eq-Decides id (get_or ids (place_among ids id) [])).0 (opposite _ (prefix_len_stops (λ x. not (bytes_eq id x)) ids [] lt)))

  -- the place where an id is found is its own
  pub id_at : (id : Text) (place : ℕ) (d : Text) → position (bytes_eq id) ids ≡ Some place → get_or ids place d ≡ id
  id_at id place d at =
      let found = position-Some (bytes_eq id) ids place d at in
      sym ((bytes_eq-Decides id (get_or ids place d)).0 found.1)

  -- ids at one place are the same, where one of them is known
  same_id : (a b : Text) → Contains ids b → place_among ids a ≡ place_among ids b → a ≡ b
  same_id a b known same =
      let before = place_before b known in
      sym (id_there a (subst (λ n. n < length ids) (sym same) before)) ∙ ap (λ n. get_or ids n []) same ∙ id_there b before

  same_feature : (f x : FeatureValue) → Contains ids x.package_id → node_of ids f ≡ node_of ids x → f ≡ x
  same_feature f x known same =
      let id = same_id f.package_id x.package_id known (ap (λ (n : NodeValue). n.place) same) in
      let label = ap (λ (n : NodeValue). n.label) same in
      λ i. record { package_id = id i; label = label i }

  same_test : (f x : FeatureValue) → Contains ids x.package_id → node_eq (node_of ids f) (node_of ids x) ≡ feature_eq f x
  same_test f x known =
      let nodes = nodes_decide (node_of ids f) (node_of ids x) in
      same_answer _ _ (λ h. (features_decide f x).1 (same_feature f x known (nodes.0 h))) (λ h. nodes.1 (ap (node_of ids) ((features_decide f x).0 h)))

  -- a feature is among nodes where it is among features
  pub same_any : (f : FeatureValue) (xs : List FeatureValue) → ((x : FeatureValue) → Contains xs x → Contains ids x.package_id) → list_any (node_eq (node_of ids f)) (map (node_of ids) xs) ≡ is_node xs f
  same_any f [] known = refl
  same_any f (x ∷ xs) known =
      let first = same_test f x (known x (Contains-first x xs)) in
      let rest = same_any f xs (λ y h. known y (Contains-rest x xs y h)) in
      λ i. first i || rest i

  -- and at the same place
  pub same_number : (f : FeatureValue) (xs : List FeatureValue) → ((x : FeatureValue) → Contains xs x → Contains ids x.package_id) → position_or_len (node_eq (node_of ids f)) (map (node_of ids) xs) ≡ number_of xs f
  same_number f [] known = refl
  same_number f (x ∷ xs) known =
      let first = same_test f x (known x (Contains-first x xs)) in
      let rest = same_number f xs (λ y h. known y (Contains-rest x xs y h)) in
      λ i. cond (not (first i)) (1 + rest i) 0

within_take : (xs : List FeatureValue) (n : ℕ) → n < length xs → (x : FeatureValue) → Contains (take n xs) x → (k : ℕ) × (k < n) × (get_or xs k x ≡ x)
within_take xs n lt x (k, before, is) =
    let below : k < n = subst (λ m. k < m) (length-take-le n xs (omega (arith, lt))) before in
    (k, below, sym (get_or-take n xs k x below) ∙ is)

-- of elements that differ none stands before itself
new_there : (xs : List FeatureValue) → AllPairs (λ x y. x ≢ y) xs → (i : ℕ) (x : FeatureValue) → i < length xs → get_or xs i x ≡ x → Contains (take i xs) x → ⊥
new_there xs differ i x lt at h =
    let found = within_take xs i lt x h in
    differ found.0 i x found.1 lt (found.2 ∙ sym at)

-- one node more, which is a new one
pub names_more : {X : Type 0} (ids : List Text) (view : X → FeatureValue) (features : List X) → ((f : FeatureValue) → Contains (map view features) f → Contains ids f.package_id) → AllPairs (λ x y. x ≢ y) (map view features) → (i : ℕ) (feature : X) → i < length features → feature ≡ get_or features i feature → (keys new : List NodeValue) → keys ≡ map (node_of ids) (map view (take i features)) → new ≡ insert_key node_eq keys (node_of ids (view feature)) → new ≡ map (node_of ids) (map view (take (i + 1) features))
names_more ids view features known differ i feature lt is keys new before inserted =
    let all = map view features in
    let x = view feature in
    let taken = take i all in
    let within : i < length all = subst (λ n. i < n) (sym (length-map features view)) lt in
    let at : get_or all i x ≡ x = get_or-map view features i feature x lt ∙ ap view (sym is) in
    let old : keys ≡ map (node_of ids) taken = before ∙ ap (map (node_of ids)) (sym (take-map view i features)) in
    let among : (f : FeatureValue) → Contains taken f → Contains ids f.package_id = λ f h. let found = within_take all i within f h in known f (found.0, omega (arith, found.1, within), found.2) in
    let none : is_node taken x ≡ false = has_place (is_node taken x) (λ h.
    let found = list_any_cases (feature_eq x) taken h in
    new_there all differ i x within at (subst (Contains taken) (sym ((features_decide x found.0).0 found.2)) found.1)) in
    let unseen : list_any (node_eq (node_of ids x)) keys ≡ false = ap (list_any (node_eq (node_of ids x))) old ∙ same_any ids x taken among ∙ none in
    let grown : map view (take (i + 1) features) ≡ map view (take i features) ++ x ∷ [] = map-take_more view features i feature lt ∙ ap (λ y. map view (take i features) ++ view y ∷ []) (sym is) in
    inserted ∙ ap (λ b. cond b keys (keys ++ node_of ids x ∷ [])) unseen ∙ ap (λ ks. ks ++ node_of ids x ∷ []) before ∙ sym (ap (map (node_of ids)) grown ∙ map-append (node_of ids) (map view (take i features)) (x ∷ []))

module _ (packages : List Package) (keys : List NodeValue) (names : keys ≡ map (node_of (ids_of packages)) (nodes_of packages)) where
  -- whether a feature is a node
  pub any_by : (f : FeatureValue) → list_any (node_eq (node_of (ids_of packages) f)) keys ≡ is_node (nodes_of packages) f
  any_by f = ap (list_any (node_eq (node_of (ids_of packages) f))) names ∙ same_any (ids_of packages) f (nodes_of packages) (node_package packages)

  -- the number of a feature
  pub number_by : (f : FeatureValue) → position_or_len (node_eq (node_of (ids_of packages) f)) keys ≡ number_of (nodes_of packages) f
  number_by f = ap (position_or_len (node_eq (node_of (ids_of packages) f))) names ∙ same_number (ids_of packages) f (nodes_of packages) (node_package packages)

  -- there are as many
  pub count_by : length keys ≡ length (nodes_of packages)
  count_by = ap length names ∙ length-map (nodes_of packages) (node_of (ids_of packages))

  -- the node with a number
  pub node_by : (v : ℕ) (d : NodeValue) (e : FeatureValue) → v < length (nodes_of packages) → get_or keys v d ≡ node_of (ids_of packages) (get_or (nodes_of packages) v e)
  node_by v d e lt = ap (λ ks. get_or ks v d) names ∙ get_or-map (node_of (ids_of packages)) (nodes_of packages) v e d lt

  among : (v : ℕ) (e : FeatureValue) → v < length (nodes_of packages) → Contains (ids_of packages) (get_or (nodes_of packages) v e).package_id
  among v e lt = node_package packages (get_or (nodes_of packages) v e) (Contains-get_or (nodes_of packages) v e lt)

  -- the place of its package is the one of its id
  pub placed_by : (v : ℕ) (d : NodeValue) (e : FeatureValue) → v < length (nodes_of packages) → (position (bytes_eq (get_or (nodes_of packages) v e).package_id) (ids_of packages) ≡ Some (get_or keys v d).place) × ((get_or keys v d).place < length packages)
  placed_by v d e lt =
      let id = (get_or (nodes_of packages) v e).package_id in
      let place = ap (λ (n : NodeValue). n.place) (node_by v d e lt) in
      let found = place_found (ids_of packages) id (among v e lt) in
      (found.0 ∙ ap Some (sym place), subst (λ n. n < length packages) (sym place) (subst (λ n. place_among (ids_of packages) id < n) (length-map packages (λ (p : Package). p.id)) found.1))
