-- One step more of a resolve, and its end.
use Rattle.std.proofs.Common.{◌≡◌, ◌↔◌, ℕ, suc, ◌<◌, nat_lt, Bool, true, false, List, [], ◌∷◌, ◌++◌, None, Some, length, sym, subst, ap, ◌∙◌, IsTrue, arith}
use Rattle.std.specs.Option.{is_none}
use Rattle.std.proofs.lemmas.Bool.{and_parts}
use Rattle.std.proofs.lemmas.Bool.Decides.{nat_tests}
use Rattle.std.proofs.lemmas.List.{length-map, map-append}
use Rattle.numbered_graph.specs.declared.direction.Direction.{Direction}
use Rattle.numbered_graph.specs.Graphs.{GraphValue}
use Rattle.numbered_graph.specs.Paths.{any_link, IsReached}
use Rattle.numbered_graph.specs.Sets.{has}
use Rattle.numbered_offers.specs.declared.due.Due.{Due}
use Rattle.numbered_offers.specs.declared.edge.Edge.{Edge}
use Rattle.numbered_offers.specs.declared.offer.Offer.{Offer}
use Rattle.numbered_offers.specs.declared.due.Due.TheVariants.{One, Halves}
use Rattle.numbered_offers.specs.Dues.{asked_of, asks}
use Rattle.numbered_offers.specs.Edges.{edge_at, has_offer, is_offer, required_half, same_offer}
use Rattle.numbered_offers.specs.Graphs.{OfferGraphValue}
use Rattle.numbered_offers.specs.OfferWalks.{OfferWalkValue}
use Rattle.numbered_offers.specs.Runs.{IsLegalRun, IsReachedBy, Run}
use Rattle.guppy_package_parts.specs.declared.dependency_direction.DependencyDirection.{DependencyDirection}
use Rattle.guppy_package_graph.specs.Directions.{direction_of}
use Rattle.guppy_package_graph.specs.Visits.{Chain, SameSteps}
use Rattle.guppy_feature_nodes.specs.GraphEdges.{edge_ends}
use Rattle.guppy_feature_nodes.specs.Graphs.{FeatureGraphValue}
use Rattle.guppy_feature_nodes.specs.Offering.{offer_edge, offered}
use Rattle.guppy_feature_graph.specs.Queries.{IsQueryOf, QueryValue}
use Rattle.guppy_feature_graph.specs.Resolves.{IsReachOf, IsResolved, offered_edges, shown_to}
use Rattle.guppy_feature_graph.specs.Sets.{SetValue}
use Rattle.guppy_feature_graph.specs.Links as links

-- the walk of a query that waits for no answer
pub record IsWalkOf (q : QueryValue) (w : OfferWalkValue) : Type 0 where
  pub graph : w.graph ≡ offered (direction_of q.direction) q.graph
  pub direction : w.direction ≡ direction_of q.direction
  pub starts : w.starts ≡ q.initials
  pub idle : w.waiting ≡ None

pub SameSteps-refl : {S X : Type 0} (P : S → X → Bool → S → Type 0) → SameSteps P P
SameSteps-refl P = record { there = λ s x b t h. h; back = λ s x b t h. h }

pub SameSteps-trans : {S X : Type 0} {P Q R : S → X → Bool → S → Type 0} → SameSteps P Q → SameSteps Q R → SameSteps P R
SameSteps-trans p q = record { there = λ s x b t h. q.there s x b t (p.there s x b t h); back = λ s x b t h. p.back s x b t (q.back s x b t h) }

-- one chain after the other
pub Chain-append : {S X A : Type 0} (R : S → X → A → S → Type 0) (xs ys : List (X × A)) (s m t : S) → Chain R s xs m → Chain R m ys t → Chain R s (xs ++ ys) t
Chain-append R [] ys s m t e more = subst (λ p. Chain R p ys t) e more
Chain-append R (o ∷ xs) ys s m t (n, first, rest) more = (n, first, Chain-append R xs ys n m t rest more)

-- by other steps that are the same
pub Chain-by : {S X A : Type 0} (P R : S → X → A → S → Type 0) (xs : List (X × A)) (s t : S) → ((a : S) (x : X) (b : A) (c : S) → P a x b c → R a x b c) → Chain P s xs t → Chain R s xs t
Chain-by P R [] s t same e = e
Chain-by P R (o ∷ xs) s t same (n, first, rest) = (n, same s o.0 o.1 n first, Chain-by P R xs n t same rest)

pub shown_more : (q : QueryValue) (run more : Run) → shown_to q (run ++ more) ≡ shown_to q run ++ shown_to q more
shown_more q run more = map-append (λ (s : Offer × Bool). ((q, links.link_of q.graph s.0), s.1)) run more

module _ (q : QueryValue) where
  abbrev IsTaken : OfferWalkValue → OfferWalkValue → Due → Type 0
  IsTaken w taken due = taken ≡ record w { waiting = Some due; ended = is_none (Some due); passed = taken.passed; looked = taken.looked }

  abbrev IsAnswered : OfferWalkValue → OfferWalkValue → Due → Bool → Bool → Type 0
  IsAnswered taken answered due a b = answered ≡ record taken { waiting = None; ended = false; run = taken.run ++ asked_of (Some due) a b; passed = suc taken.passed }

  -- what was offered at once was answered
  pub walk_more : (w taken answered : OfferWalkValue) (due : Due) (a b : Bool) → IsWalkOf q w → IsTaken w taken due → IsAnswered taken answered due a b → IsWalkOf q answered
  walk_more w taken answered due a b of_query is_taken is_answered = record {
    graph = ap (λ (v : OfferWalkValue). v.graph) is_answered ∙ ap (λ (v : OfferWalkValue). v.graph) is_taken ∙ of_query.graph;
    direction = ap (λ (v : OfferWalkValue). v.direction) is_answered ∙ ap (λ (v : OfferWalkValue). v.direction) is_taken ∙ of_query.direction;
    starts = ap (λ (v : OfferWalkValue). v.starts) is_answered ∙ ap (λ (v : OfferWalkValue). v.starts) is_taken ∙ of_query.starts;
    idle = ap (λ (v : OfferWalkValue). v.waiting) is_answered;
  }

  pub run_more : (w taken answered : OfferWalkValue) (due : Due) (a b : Bool) → IsTaken w taken due → IsAnswered taken answered due a b → answered.run ≡ w.run ++ asked_of (Some due) a b
  run_more w taken answered due a b is_taken is_answered =
      ap (λ (v : OfferWalkValue). v.run) is_answered ∙ ap (λ (v : OfferWalkValue). v.run ++ asked_of (Some due) a b) is_taken

  by_fields : (P : Direction → List Edge → List ℕ → Type 0) (w : OfferWalkValue) → IsWalkOf q w → P w.direction w.graph.edges w.starts → P (direction_of q.direction) (offered_edges q) q.initials
  by_fields P w o h =
      subst (λ s. P (direction_of q.direction) (offered_edges q) s) o.starts (subst (λ (g : OfferGraphValue). P (direction_of q.direction) g.edges w.starts) o.graph (subst (λ d. P d w.graph.edges w.starts) o.direction h))

  abbrev IsEnded : OfferWalkValue → OfferWalkValue → Type 0
  IsEnded w ended = ended ≡ record w { waiting = None; ended = true; passed = ended.passed; looked = ended.looked }

  -- no offer was left
  pub resolved : (w ended : OfferWalkValue) (included : List Bool) → IsWalkOf q w → IsEnded w ended → IsLegalRun w.direction w.graph.edges w.starts w.run → length included ≡ ended.graph.nodes → ((v : ℕ) → IsTrue (has included v) ↔ IsReachedBy ended.direction ended.graph.edges ended.starts ended.run v) → IsResolved q w.run included
  resolved w ended included of_query is_ended legal sized includes = record {
    legal = by_fields (λ d es s. IsLegalRun d es s w.run) w of_query legal;
    sized = sized ∙ ap (λ (v : OfferWalkValue). v.graph.nodes) is_ended ∙ ap (λ (g : OfferGraphValue). g.nodes) of_query.graph;
    includes = λ v. by_fields (λ d es s. IsTrue (has included v) ↔ IsReachedBy d es s w.run v) w of_query (subst (λ (e : OfferWalkValue). IsTrue (has included v) ↔ IsReachedBy e.direction e.graph.edges e.starts e.run v) is_ended (includes v));
  }

-- what is offered at once is asked
pub one_asked : (due : Due) (o : Offer) → due ≡ One o → asks (Some due) o ≡ true
one_asked due o is = ap (λ d. asks (Some d) o) is ∙ same_itself o
  where
    same_itself : (o : Offer) → same_offer o o ≡ true
    same_itself o = grind (arith, nat_tests)

pub required_asked : (due : Due) (e : ℕ) → due ≡ Halves e → asks (Some due) (required_half e) ≡ true
required_asked due e is = ap (λ d. asks (Some d) (required_half e)) is ∙ here e
  where
    here : (e : ℕ) → asks (Some (Halves e)) (required_half e) ≡ true
    here e = grind (arith, nat_tests)

-- what edges lead to is the reach of a query
pub reach_of : (q : QueryValue) (g : GraphValue) (d : Direction) (starts : List ℕ) (set : List Bool) (s : SetValue) → g ≡ record { nodes = length q.graph.nodes; links = edge_ends q.graph.edges } → d ≡ direction_of q.direction → starts ≡ q.initials → s.graph ≡ q.graph → s.included ≡ set → ((v : ℕ) → IsTrue (has set v) ↔ IsReached d g.links any_link starts v) → IsReachOf q s
reach_of q g d starts set s edges direction initials of_graph included members =
    let by_set : (v : ℕ) → IsTrue (has s.included v) ↔ IsReached d g.links any_link starts v = subst (λ xs. (v : ℕ) → IsTrue (has xs v) ↔ IsReached d g.links any_link starts v) (sym included) members in
    record {
      graph = of_graph;
      members = subst (λ xs. (v : ℕ) → IsTrue (has s.included v) ↔ IsReached (direction_of q.direction) (edge_ends q.graph.edges) any_link xs v) initials
          (subst (λ (x : GraphValue). (v : ℕ) → IsTrue (has s.included v) ↔ IsReached (direction_of q.direction) x.links any_link starts v) edges (subst (λ x. (v : ℕ) → IsTrue (has s.included v) ↔ IsReached x g.links any_link starts v) direction by_set));
    }

below : (a b : ℕ) → nat_lt a b ≡ true → a < b
below a b h = grind (arith, nat_tests, h)

-- what is offered has an edge of the query's graph
pub offer_below : (q : QueryValue) (w : OfferWalkValue) → IsWalkOf q w → (o : Offer) → is_offer w.graph.edges o ≡ true → o.edge < length q.graph.edges
offer_below q w of_query o h =
    let edges = w.graph.edges in
    let lt = below o.edge (length edges) (and_parts (nat_lt o.edge (length edges)) (has_offer (edge_at edges o.edge).sort o.kind) h).0 in
    subst (λ n. o.edge < n) (ap (λ (g : OfferGraphValue). length g.edges) of_query.graph ∙ length-map q.graph.edges (offer_edge (direction_of q.direction) (length q.graph.nodes) q.graph.rows.links)) lt

-- a query from the nodes that pass one test is one from those that pass another that says the same
pub query_by : (g : FeatureGraphValue) (d : DependencyDirection) (P Q : ℕ → Type 0) (q : QueryValue) → ((v : ℕ) → P v ↔ Q v) → IsQueryOf g d P q → IsQueryOf g d Q q
query_by g d P Q q same h = record {
  graph = h.graph;
  directed = h.directed;
  initials = record {
    ascending = h.initials.ascending;
    each = λ v. (λ inside. (same v).0 ((h.initials.each v).0 inside), λ passes. (h.initials.each v).1 ((same v).1 passes));
  };
}
