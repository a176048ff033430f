-- What a least set of nodes includes is what its features lead to.
use Rattle.std.proofs.Common.{◌≡◌, ◌↔◌, ℕ, ◌<◌, Bool, true, false, List, [], Contains, IfOk, IsTrue, Result, Ok, Err, Vec, filter, length, get_or, map, nat_lt, sym, subst, ap, ◌∙◌, arith}
use Rattle.std.specs.Global.{Global}
use Rattle.std.proofs.lemmas.Bool.Decides.{nat_tests}
use Rattle.std.proofs.lemmas.List.{get_or-map}
use Rattle.list_facts.proofs.Membership.{Contains-none, Contains-filter, Contains-filter_cases, Contains-map, Contains-map_cases}
use Rattle.numbered_graph.specs.declared.direction.Direction.TheVariants.{Forward}
use Rattle.numbered_graph.specs.Links.{near_at, far_at}
use Rattle.numbered_graph.specs.declared.link.Link as numbered
use Rattle.numbered_graph.specs.Sets.{has}
use Rattle.numbered_graph.proofs.SetFacts.{has-within}
use Rattle.numbered_offers.specs.declared.edge.Edge.{Edge}
use Rattle.numbered_offers.specs.declared.edge.EdgeSort.TheVariants.{Weak}
use Rattle.numbered_offers.specs.declared.offer.Offer.{Offer}
use Rattle.numbered_offers.specs.Edges as offers
use Rattle.numbered_offers.specs.Least.{IsClosed as AreEdgesClosed, IsLeast}
use Rattle.numbered_offers.proofs.LeastFacts.{offer_number}
use Rattle.workspace_record.specs.Features.{FeatureValue}
use Rattle.workspace_record.specs.declared.choice.PlatformTable.{PlatformTable}
use Rattle.guppy_feature_demands.specs.Nodes.{base_of, nodes_of, number_of}
use Rattle.guppy_feature_nodes.specs.GraphEdges.{AreEdgesWithin}
use Rattle.guppy_feature_nodes.specs.Graphs.{FeatureGraphValue, IsFeatureGraph, feature_at}
use Rattle.guppy_feature_nodes.specs.Offering.{offers_of}
use Rattle.guppy_feature_nodes.proofs.DistinctFacts.{at_number, nodes_differ, number_at}
use Rattle.guppy_feature_nodes.proofs.EdgeFacts.{edges_within}
use Rattle.guppy_feature_nodes.proofs.OfferFacts.{offers_within}
use Rattle.guppy_feature_graph.specs.Queries.{IsQueryOf, QueryValue}
use Rattle.guppy_feature_graph.specs.Sets.{SetValue, listed}
use Rattle.guppy_package_graph.specs.Directions.{direction_of}
use Rattle.guppy_package_parts.specs.declared.dependency_direction.DependencyDirection.TheVariants as dependency
use Rattle.test_select_features.specs.Leading.{IsLeastBy, IsLedTo, LeadsTo, PassesCounting}

-- an edge that is offered lies between the nodes, and so does that for which it waits
within_at : (nodes : ℕ) (edges : List Edge) → offers.AreEdgesWithin nodes edges → (e : ℕ) → e < length edges → (near_at Forward (offers.edge_links edges) e < nodes) × (far_at Forward (offers.edge_links edges) e < nodes) × (offers.dep_at edges e < nodes)
within_at nodes edges all e lt =
    let here = all e (record { from = 0; to = 0; sort = Weak 0 false false }) lt in
    let link = get_or-map offers.link_of edges e (record { from = 0; to = 0; sort = Weak 0 false false }) (record { from = 0; to = 0 }) lt in
    (subst (λ (l : numbered.Link). l.from < nodes) (sym link) here.0, subst (λ (l : numbered.Link). l.to < nodes) (sym link) here.1, here.2)

below_test : (a b : ℕ) → a < b → nat_lt a b ≡ true
below_test a b h = grind (arith, nat_tests, h)

module _ (table : PlatformTable) (g : FeatureGraphValue) (built : IsFeatureGraph g) (starts : ℕ → Type 0) (within : (v : ℕ) → starts v → v < length g.nodes) where
  module _ (initials : List ℕ) (named : (v : ℕ) → Contains initials v ↔ starts v) (included : List Bool) (sized : length included ≡ length g.nodes) where
    module _ (accepts : Offer → Bool) (counting : PassesCounting table g accepts) (least : IsLeast Forward (offers_of Forward g) initials accepts (λ v. IsTrue (has included v))) where
      abbrev found : List ℕ
      found = listed (record { graph = g; included = included })

      -- the features of what is included are led to
      led : (f : FeatureValue) → Contains (map (feature_at g) found) f → IsLedTo table g starts f
      led f h passes also s has_each closed =
          let (v, there, is) = Contains-map_cases (feature_at g) found f h in
          subst (λ x. s x ≡ true) is (least.within (λ u. s (feature_at g u)) by_initials v (Contains-filter_cases (has included) g.listing v there).1)
        where
          by_initials : AreEdgesClosed Forward (offers_of Forward g) initials accepts (λ u. s (feature_at g u) ≡ true)
          by_initials = record {
            begins = λ u h. has_each u ((named u).0 h);
            free = closed.free;
            offered = λ o offered yes. closed.offered o offered ((also o).1 ((counting o).0 yes));
          }

      -- the features whose nodes are included
      abbrev is_included : FeatureValue → Bool
      is_included f = has included (number_of g.nodes f)

      of_node : (v : ℕ) → v < length g.nodes → number_of g.nodes (feature_at g v) ≡ v
      of_node v lt = subst (λ nodes. v < length nodes → number_of nodes (get_or nodes v (base_of [])) ≡ v) (sym built.nodes) (number_at (nodes_of g.rows.packages) (nodes_differ g.rows.packages) v) lt

      in_set : (v : ℕ) → v < length g.nodes → has included v ≡ true → is_included (feature_at g v) ≡ true
      in_set v lt h = ap (has included) (of_node v lt) ∙ h

      of_set : (v : ℕ) → v < length g.nodes → is_included (feature_at g v) ≡ true → has included v ≡ true
      of_set v lt h = ap (has included) (sym (of_node v lt)) ∙ h

      edge_at_within : (e : ℕ) → e < length (offers_of Forward g) → (near_at Forward (offers.edge_links (offers_of Forward g)) e < length g.nodes) × (far_at Forward (offers.edge_links (offers_of Forward g)) e < length g.nodes) × (offers.dep_at (offers_of Forward g) e < length g.nodes)
      edge_at_within = within_at (length g.nodes) (offers_of Forward g) (offers_within Forward (length g.nodes) g.rows.links g.edges (subst (λ nodes. AreEdgesWithin (length nodes) g.rows.links g.edges) (sym built.nodes) (edges_within g.rows.packages g.rows.links g.edges built.edges)))

      own_closed : AreEdgesClosed Forward (offers_of Forward g) [] accepts (λ v. is_included (feature_at g v) ≡ true)
      own_closed = record {
        begins = λ v h. absurd (Contains-none v h);
        free = λ e lt free here.
            let ends = edge_at_within e lt in
            in_set _ ends.1 (least.closed.free e lt free (of_set _ ends.0 here));
        offered = λ o offered yes near dep.
            let ends = edge_at_within o.edge (offer_number (offers_of Forward g) o offered) in
            in_set _ ends.1 (least.closed.offered o offered yes (of_set _ ends.0 near) (λ w. of_set _ ends.2 (dep w)));
      }

      own_starts : (v : ℕ) → starts v → is_included (feature_at g v) ≡ true
      own_starts v h = in_set v (within v h) (least.closed.begins v ((named v).1 h))

      -- what is led to is the feature of what is included
      found_of : (f : FeatureValue) → IsLedTo table g starts f → Contains (map (feature_at g) found) f
      found_of f leads =
          let v = number_of g.nodes f in
          let inside : has included v ≡ true = leads accepts counting is_included own_starts own_closed in
          let lt : v < length g.nodes = subst (λ n. v < n) sized (has-within included v inside) in
          let there = Contains-filter (has included) g.listing v ((built.listed.each v).1 (below_test v (length g.nodes) lt)) inside in
          subst (Contains (map (feature_at g) found)) (at_number g.nodes f lt) (Contains-map (feature_at g) found v there)

      pub leads_to_found : LeadsTo table g starts (map (feature_at g) found)
      leads_to_found f = (led f, found_of f)

  -- what a query leads to over the links behind which a line counts is what its starts lead to
  pub reached_by : (q : QueryValue) (s : SetValue) → IsQueryOf g dependency.Forward starts q → IsLeastBy table q s → LeadsTo table g starts (map (feature_at s.graph) (listed s))
  reached_by q s query by =
      let whole : s.graph ≡ g = by.graph ∙ query.graph in
      let counting : PassesCounting table g by.accepts = subst (λ h. PassesCounting table h by.accepts) query.graph by.counting in
      let forward : IsLeast Forward (offers_of Forward q.graph) q.initials by.accepts (λ v. IsTrue (has s.included v)) =
      subst (λ d. IsLeast (direction_of d) (offers_of (direction_of d) q.graph) q.initials by.accepts (λ v. IsTrue (has s.included v))) query.directed by.least in
      let least : IsLeast Forward (offers_of Forward g) q.initials by.accepts (λ v. IsTrue (has s.included v)) =
      subst (λ h. IsLeast Forward (offers_of Forward h) q.initials by.accepts (λ v. IsTrue (has s.included v))) query.graph forward in
      let sized : length s.included ≡ length g.nodes = by.sized ∙ ap (λ (h : FeatureGraphValue). length h.nodes) query.graph in
      subst (λ (h : FeatureGraphValue). LeadsTo table g starts (map (feature_at h) (filter (has s.included) h.listing))) (sym whole) (leads_to_found q.initials query.initials.each s.included sized by.accepts counting least)

-- where a list that was made is the one that is led to
pub where_found : {E : Type 0} (table : PlatformTable) (g : FeatureGraphValue) (starts : ℕ → Type 0) (r : Result (Vec FeatureValue Global) E) (found : List FeatureValue) → IfOk r (λ v. v.items ≡ found) → LeadsTo table g starts found → IfOk r (λ v. LeadsTo table g starts v.items)
where_found table g starts (Ok v) found is leads = subst (LeadsTo table g starts) (sym is) leads
where_found table g starts (Err e) found is leads = is
