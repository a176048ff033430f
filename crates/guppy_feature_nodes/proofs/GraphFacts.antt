-- What holds of the edges and nodes of a graph that is built.
use Rattle.std.proofs.Common.{◌≡◌, ◌≢◌, ℕ, ◌<◌, length, List, [], ◌∷◌, ◌++◌, All, AllPairs, Contains, Option, Some, None, option_and_then, slice_get, map, nat_eq, filter, position, IsTrue, refl, sym, subst, ap, ◌∙◌}
use Rattle.std.specs.Option.{is_some}
use Rattle.std.specs.Str.{bytes_eq}
use Rattle.std.proofs.lemmas.Bool.{false≢true}
use Rattle.std.proofs.lemmas.List.{length-map, map-append}
use Rattle.std.proofs.lemmas.List.Elements.{All-contains, All-get_or}
use Rattle.std.proofs.lemmas.List.Quantifiers.{position-Some}
use Rattle.std.proofs.lemmas.Option.{get_or_from_slice_get, slice_get-get_or, slice_get_within}
use Rattle.std.proofs.lemmas.Slice.Eq.{bytes_eq-Decides}
use Rattle.list_facts.proofs.Membership.{Contains-filter_cases, Contains-map_cases}
use Rattle.list_facts.proofs.Quantifiers.{All-from_Contains, list_any-from_Contains}
use Rattle.workspace_record.specs.Records.{Link, Package, Text}
use Rattle.workspace_record.specs.Features.{FeatureValue}
use Rattle.guppy_package_parts.specs.Lines.{IsLineAt}
use Rattle.guppy_package_table.specs.Tables.{TableValue, ids_of, place_among}
use Rattle.guppy_feature_demands.specs.declared.link_declarations.LinkDeclarations.{LinkDeclarations}
use Rattle.guppy_feature_demands.specs.Nodes.{base_of, nodes_of}
use Rattle.list_facts.proofs.Quantifiers.{list_any_from_position_or_len}
use Rattle.guppy_feature_demands.proofs.NumberFacts.{at_end, at_place}
use Rattle.guppy_feature_nodes.specs.GraphEdges.{AreEdges, AreEdgesWithin, EdgeValue, IsEdgeWithin, edge_at}
use Rattle.guppy_feature_nodes.specs.Graphs.{AreListed, FeatureGraphValue, IsFeatureGraph, feature_at}
use Rattle.guppy_feature_nodes.specs.Lines.{declares_at, links_shown}
use Rattle.guppy_feature_nodes.proofs.EdgeFacts.{edges_within, first_of_each-among}
use Rattle.guppy_feature_nodes.proofs.NodeFacts.{node_package, node_row}

-- what is seen of what was made of a list that grew
pub values_more : {X Y A B : Type 0} (view : X → B) (f : Y → B) (g : A → Y) (old new : List X) (x : X) (made : List A) (a : A) → map view old ≡ map f (map g made) → view x ≡ f (g a) → new ≡ old ++ x ∷ [] → map view new ≡ map f (map g (made ++ a ∷ []))
values_more view f g old new x made a before seen pushed =
    ap (map view) pushed ∙ map-append view old (x ∷ []) ∙ (λ j. before j ++ seen j ∷ []) ∙ sym (ap (map f) (map-append g made (a ∷ [])) ∙ map-append f (map g made) (g a ∷ []))

module _ (g : FeatureGraphValue) (built : IsFeatureGraph g) where
  all_within : AreEdgesWithin (length g.nodes) g.rows.links g.edges
  all_within = subst (λ nodes. AreEdgesWithin (length nodes) g.rows.links g.edges) (sym built.nodes) (edges_within g.rows.packages g.rows.links g.edges built.edges)

  -- an edge lies between the nodes
  pub edge_within : (number : ℕ) → number < length g.edges → IsEdgeWithin (length g.nodes) g.rows.links (edge_at g.edges number)
  edge_within number lt = All-get_or (IsEdgeWithin (length g.nodes) g.rows.links) g.edges number _ lt all_within

  link_within : (place : ℕ × ℕ) → IsLineAt g.rows.links place → place.0 < length g.rows.links
  link_within place h = by (slice_get g.rows.links place.0) refl h
    where
      by : (o : Option Link) → slice_get g.rows.links place.0 ≡ o → IsTrue (is_some (option_and_then (λ (link : Link). slice_get link.lines place.1) o)) → place.0 < length g.rows.links
      by (Some link) e k = slice_get_within g.rows.links place.0 link e
      by None e k = absurd (false≢true k)

  -- the links of the lines that are shown of it are links of the rows
  pub links_within : (number : ℕ) → number < length g.edges → (shown : LinkDeclarations) → All (λ link. link < length g.rows.links) (links_shown g.rows.links shown (edge_at g.edges number).lines)
  links_within number lt shown =
      let lines = (edge_at g.edges number).lines in
      let declaring = filter (declares_at g.rows.links shown) lines in
      All-from_Contains (λ link. link < length g.rows.links) (links_shown g.rows.links shown lines) (λ link h.
      let found = Contains-map_cases (λ (place : ℕ × ℕ). place.0) declaring link (first_of_each-among nat_eq (map (λ (place : ℕ × ℕ). place.0) declaring) link h) in
      subst (λ n. n < length g.rows.links) found.2 (link_within found.0 (All-contains (IsLineAt g.rows.links) lines found.0 (edge_within number lt).lines (Contains-filter_cases (declares_at g.rows.links shown) lines found.0 found.1).0)))

  among : (node : ℕ) → node < length g.nodes → Contains g.nodes (feature_at g node)
  among node lt = (node, lt, get_or_from_slice_get g.nodes node (feature_at g node) (feature_at g node) (slice_get-get_or g.nodes node (base_of []) lt))

  -- each feature is one that the row of its package lists
  pub all_listed : AllPairs (λ a b. a.id ≢ b.id) g.rows.packages → AreListed g
  all_listed apart v place row lt at is =
      node_row g.rows.packages apart (feature_at g v) place row (subst (λ nodes. Contains nodes (feature_at g v)) built.nodes (among v lt)) at is

  -- the package of a node is found by its id
  pub package_there : (node : ℕ) → node < length g.nodes → (rows : TableValue) → rows ≡ g.rows → (id : Text) → id ≡ (feature_at g node).package_id → position (bytes_eq id) (ids_of rows.packages) ≡ None → ⊥
  package_there node lt rows same id is none =
      let ids = ids_of g.rows.packages in
      let known : Contains ids id = subst (Contains ids) (sym is) (node_package g.rows.packages (feature_at g node) (subst (λ nodes. Contains nodes (feature_at g node)) built.nodes (among node lt))) in
      let unknown : position (bytes_eq id) ids ≡ None = subst (λ (r : TableValue). position (bytes_eq id) (ids_of r.packages) ≡ None) same none in
      let here = list_any-from_Contains (bytes_eq id) ids id known ((bytes_eq-Decides id id).1 refl) in
      false≢true (sym (list_any_from_position_or_len (bytes_eq id) ids (at_end (bytes_eq id) ids unknown)) ∙ here)

  -- and its place is where the id is found
  pub package_placed : (node : ℕ) → node < length g.nodes → (rows : TableValue) → rows ≡ g.rows → (id : Text) → id ≡ (feature_at g node).package_id → (position (bytes_eq id) (ids_of rows.packages) ≡ Some (place_among (ids_of rows.packages) id)) × (place_among (ids_of rows.packages) id < length rows.packages)
  package_placed node lt rows same id is = by (position (bytes_eq id) (ids_of rows.packages)) refl
    where
      by : (o : Option ℕ) → position (bytes_eq id) (ids_of rows.packages) ≡ o → (position (bytes_eq id) (ids_of rows.packages) ≡ Some (place_among (ids_of rows.packages) id)) × (place_among (ids_of rows.packages) id < length rows.packages)
      by None none = absurd (package_there node lt rows same id is none)
      by (Some v) at =
          let here : place_among (ids_of rows.packages) id ≡ v = at_place (bytes_eq id) (ids_of rows.packages) v at in
          let found = position-Some (bytes_eq id) (ids_of rows.packages) v [] at in
          (at ∙ ap Some (sym here), subst (λ n. n < length rows.packages) (sym here) (subst (λ n. v < n) (length-map rows.packages (λ p. p.id)) found.0))

-- the edges that were made of rows lie between the nodes that were made of them
pub parts_within : (packages : List Package) (links rows : List Link) (edges seen : List EdgeValue) (nodes : List FeatureValue) (count : ℕ) → AreEdges packages links edges → nodes ≡ nodes_of packages → count ≡ length nodes → rows ≡ links → seen ≡ edges → AreEdgesWithin count rows seen
parts_within packages links rows edges seen nodes count are nodes_are counted rows_are seen_are =
    subst (λ es. AreEdgesWithin count rows es) (sym seen_are) (subst (λ ls. AreEdgesWithin count ls edges) (sym rows_are) (subst (λ n. AreEdgesWithin n links edges) (sym (counted ∙ ap length nodes_are)) (edges_within packages links edges are)))
