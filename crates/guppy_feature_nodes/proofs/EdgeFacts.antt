-- Edges lead from one node to another, by lines of the rows.
use Rattle.std.proofs.Common.{◌≡◌, ◌≢◌, ℕ, ◌<◌, length, Bool, true, false, ◌&&◌, ◌==◌, not, nat_lt, List, [], ◌∷◌, All, Contains, Option, Some, None, map, filter, IsTrue, refl, sym, subst, ap, ◌∙◌, ⊎_elim, arith}
use Rattle.std.specs.List.{cons_option, filter_map}
use Rattle.std.specs.Option.{is_some}
use Rattle.std.proofs.lemmas.Bool.Decides.{nat_tests}
use Rattle.std.proofs.lemmas.Bool.{false≢true}
use Rattle.std.proofs.lemmas.List.Elements.{All-contains}
use Rattle.list_facts.proofs.Membership.{Contains-none, Contains-cons_cases, Contains-first, Contains-rest, Contains-map, Contains-map_cases, Contains-filter, Contains-filter_cases}
use Rattle.list_facts.proofs.Quantifiers.{All-from_Contains, Any_cases}
use Rattle.workspace_record.specs.Equality.{equivalence}
use Rattle.workspace_record.specs.Records.{Package, Link}
use Rattle.workspace_record.specs.Features.{FeatureValue}
use Rattle.guppy_package_parts.specs.Lines.{IsLineAt}
use Rattle.guppy_feature_demands.specs.Demands.{FormValue, FeatureToBase, NamedFeature, NamedFeatureDepColon, StrongSlash, WeakSlash, DependenciesSection, NumberedValue, demands_of, is_between_nodes, kept_demands, with_numbers}
use Rattle.guppy_feature_demands.specs.Nodes.{first_of_each, nodes_of}
use Rattle.guppy_feature_nodes.specs.Joining.{AreJoined, HasLines, JoinedValue, is_dropped, join_key, key_eq, place_eq, same_edge}
use Rattle.guppy_feature_nodes.specs.KeyViews.{keys_decide}
use Rattle.guppy_feature_nodes.specs.GraphEdges.{AreEdges, AreEdgesWithin, EdgeValue, IsEdgeWithin, edge_form, edge_lines, edge_value, is_always}
use Rattle.guppy_feature_nodes.proofs.LineFacts.{by_lines, demands_lined}

-- what a list of firsts has, the list has
pub first_of_each-among : {T : Type 0} (same : T → T → Bool) (xs : List T) (x : T) → Contains (first_of_each same xs) x → Contains xs x
first_of_each-among same [] x h = h
first_of_each-among same (y ∷ ys) x h =
    ⊎_elim (λ e. subst (Contains (y ∷ ys)) e (Contains-first y ys)) (λ r. Contains-rest y ys x (first_of_each-among same ys x (Contains-filter_cases (λ z. not (same y z)) (first_of_each same ys) x r).0)) (Contains-cons_cases y (filter (λ z. not (same y z)) (first_of_each same ys)) x h)

-- what is given is given by an element
given_by : {X Y : Type 0} (f : X → Option Y) (x : X) (xs : List X) (y : Y) → (Contains (filter_map f xs) y → (z : X) × Contains (x ∷ xs) z × (f z ≡ Some y)) → (o : Option Y) → f x ≡ o → Contains (cons_option o (filter_map f xs)) y → (z : X) × Contains (x ∷ xs) z × (f z ≡ Some y)
given_by f x xs y later None e k = later k
given_by f x xs y later (Some z) e k = ⊎_elim (λ is. (x, Contains-first x xs, e ∙ ap Some is)) later (Contains-cons_cases z (filter_map f xs) y k)

pub filter_map-cases : {X Y : Type 0} (f : X → Option Y) (xs : List X) (y : Y) → Contains (filter_map f xs) y → (x : X) × Contains xs x × (f x ≡ Some y)
filter_map-cases f [] y h = absurd (Contains-none y h)
filter_map-cases f (x ∷ xs) y h = given_by f x xs y (λ r. let found = filter_map-cases f xs y r in (found.0, Contains-rest x xs found.0 found.1, found.2)) (f x) refl h

given_more : {Y : Type 0} (o : Option Y) (ys : List Y) (y : Y) → Contains ys y → Contains (cons_option o ys) y
given_more None ys y h = h
given_more (Some z) ys y h = Contains-rest z ys y h

-- what an element gives is given
filter_map-has : {X Y : Type 0} (f : X → Option Y) (xs : List X) (x : X) (y : Y) → Contains xs x → f x ≡ Some y → Contains (filter_map f xs) y
filter_map-has f [] x y h is = absurd (Contains-none x h)
filter_map-has f (z ∷ xs) x y h is =
    ⊎_elim (λ e. subst (λ o. Contains (cons_option o (filter_map f xs)) y) (sym (ap f e ∙ is)) (Contains-first y (filter_map f xs))) (λ r. given_more (f z) (filter_map f xs) y (filter_map-has f xs x y r is)) (Contains-cons_cases z xs x h)

pub below : (a b : ℕ) → nat_lt a b ≡ true → a < b
below a b h = grind (arith, nat_tests, h)

other : (a b : ℕ) → not (a == b) ≡ true → a ≢ b
other a b h e = grind (arith, nat_tests, h, e)

pub both : (s t : Bool) → (s && t) ≡ true → (s ≡ true) × (t ≡ true)
both true true h = (refl, refl)
both true false h = absurd (false≢true h)
both false t h = absurd (false≢true h)

module _ (packages : List Package) (links : List Link) where
  abbrev nodes : List FeatureValue
  nodes = nodes_of packages

  abbrev kept : List NumberedValue
  kept = kept_demands nodes (demands_of packages links)

  pub kept_between : (d : NumberedValue) → Contains kept d → is_between_nodes (length nodes) d ≡ true
  kept_between d h = (Contains-filter_cases (is_between_nodes (length nodes)) (map (with_numbers nodes) (demands_of packages links)) d h).1

  kept_lined : (d : NumberedValue) → Contains kept d → (x : ℕ × ℕ) → d.line ≡ Some x → IsLineAt links x
  kept_lined d h x is =
      let found = Contains-map_cases (with_numbers nodes) (demands_of packages links) d (Contains-filter_cases (is_between_nodes (length nodes)) (map (with_numbers nodes) (demands_of packages links)) d h).0 in
      (demands_lined links packages found.0 found.1).0 x (ap (λ (e : NumberedValue). e.line) found.2 ∙ is)

  kept_by_lines : (d : NumberedValue) → Contains kept d → by_lines d.form ≡ true → IsTrue (is_some d.line)
  kept_by_lines d h by =
      let found = Contains-map_cases (with_numbers nodes) (demands_of packages links) d (Contains-filter_cases (is_between_nodes (length nodes)) (map (with_numbers nodes) (demands_of packages links)) d h).0 in
      subst (λ (l : Option (ℕ × ℕ)). IsTrue (is_some l)) (ap (λ (e : NumberedValue). e.line) found.2) ((demands_lined links packages found.0 found.1).1 (ap (λ (e : NumberedValue). by_lines e.form) found.2 ∙ by))

  module _ (joined : List JoinedValue) (joins : AreJoined kept joined) (e : JoinedValue) (within : Contains joined e) where
    pub head_kept : Contains kept e.head
    head_kept =
        let heads = subst (λ hs. Contains hs e.head) joins.heads (Contains-map (λ (j : JoinedValue). j.head) joined e within) in
        first_of_each-among same_edge kept e.head (Contains-filter_cases (λ d. not (is_dropped kept d)) (first_of_each same_edge kept) e.head heads).0

    lines_known : (x : ℕ × ℕ) → Contains e.lines x → IsLineAt links x
    lines_known x h =
        let of_head = (All-contains (HasLines kept) joined e joins.lines within).among x h in
        let found = filter_map-cases (λ (d : NumberedValue). d.line) (filter (λ d. key_eq (join_key e.head) (join_key d)) kept) x of_head in
        kept_lined found.0 (Contains-filter_cases (λ d. key_eq (join_key e.head) (join_key d)) kept found.0 found.1).0 x found.2

    -- what is made by lines has some
    some_line : by_lines e.head.form ≡ true → 0 < length e.lines
    some_line by = from e.head.line refl (kept_by_lines e.head head_kept by)
      where
        from : (o : Option (ℕ × ℕ)) → e.head.line ≡ o → IsTrue (is_some o) → 0 < length e.lines
        from None is h = absurd (false≢true h)
        from (Some x) is h =
            let joins_in = λ (d : NumberedValue). key_eq (join_key e.head) (join_key d) in
            let here = Contains-filter joins_in kept e.head head_kept ((equivalence keys_decide).refl (join_key e.head)) in
            let line = filter_map-has (λ (d : NumberedValue). d.line) (filter joins_in kept) e.head x here is in
            let found = Any_cases (λ y. place_eq x y ≡ true) e.lines ((All-contains (HasLines kept) joined e joins.lines within).each x line) in
            let lt = found.1.1 in
            omega (arith, lt)

    lined : (form : FormValue) → (by_lines form ≡ true → 0 < length e.lines) → is_always (edge_form nodes e.head.from form) ≡ false → 0 < length (edge_lines form e.lines)
    lined FeatureToBase some h = absurd (false≢true (sym h))
    lined NamedFeature some h = absurd (false≢true (sym h))
    lined NamedFeatureDepColon some h = absurd (false≢true (sym h))
    lined (StrongSlash name) some h = some refl
    lined (WeakSlash name) some h = some refl
    lined DependenciesSection some h = some refl

    behind : (form : FormValue) → All (IsLineAt links) (edge_lines form e.lines)
    behind FeatureToBase = All-from_Contains (IsLineAt links) [] (λ x h. absurd (Contains-none x h))
    behind NamedFeature = All-from_Contains (IsLineAt links) [] (λ x h. absurd (Contains-none x h))
    behind NamedFeatureDepColon = All-from_Contains (IsLineAt links) [] (λ x h. absurd (Contains-none x h))
    behind (StrongSlash name) = All-from_Contains (IsLineAt links) e.lines lines_known
    behind (WeakSlash name) = All-from_Contains (IsLineAt links) e.lines lines_known
    behind DependenciesSection = All-from_Contains (IsLineAt links) e.lines lines_known

    edge_within : IsEdgeWithin (length nodes) links (edge_value nodes e)
    edge_within =
        let between = both (nat_lt e.head.from (length nodes) && nat_lt e.head.to (length nodes)) (not (e.head.from == e.head.to)) (kept_between e.head head_kept) in
        let ends = both (nat_lt e.head.from (length nodes)) (nat_lt e.head.to (length nodes)) between.0 in
        record { from = below e.head.from (length nodes) ends.0; to = below e.head.to (length nodes) ends.1; differ = other e.head.from e.head.to between.1; lines = behind e.head.form; lined = lined e.head.form some_line }

  pub edges_within : (edges : List EdgeValue) → AreEdges packages links edges → AreEdgesWithin (length nodes) links edges
  edges_within edges are = All-from_Contains (IsEdgeWithin (length nodes) links) edges each
    where
      each : (x : EdgeValue) → Contains edges x → IsEdgeWithin (length nodes) links x
      each x h =
          let found = Contains-map_cases (edge_value nodes) are.joined x (subst (λ es. Contains es x) are.values h) in
          subst (IsEdgeWithin (length nodes) links) found.2 (edge_within are.joined are.joins found.0 found.1)
