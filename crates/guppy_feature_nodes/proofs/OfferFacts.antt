-- The edges that are offered lie between the nodes.
use Rattle.std.proofs.Common.{◌≡◌, ℕ, ◌<◌, Bool, true, false, cond, nat_lt, List, Contains, refl, arith}
use Rattle.std.proofs.lemmas.Bool.Decides.{nat_tests}
use Rattle.std.proofs.lemmas.List.Elements.{All-contains, All-map}
use Rattle.list_facts.proofs.Quantifiers.{All-from_Contains}
use Rattle.workspace_record.specs.Records.{Link}
use Rattle.numbered_graph.specs.declared.direction.Direction.{Direction}
use Rattle.numbered_offers.specs.declared.edge.Edge.{Edge}
use Rattle.numbered_offers.specs.Edges as offers
use Rattle.guppy_feature_nodes.specs.GraphEdges.{AreEdgesWithin, EdgeForm, EdgeValue, IsEdgeWithin, ToBase, ToFeature, ToDependency, ByStrongEntries, ByWeakEntries, ByLines}
use Rattle.guppy_feature_nodes.specs.Offering.{offer_edge, offer_edges, sort_of}

module _ (d : Direction) (nodes : ℕ) (links : List Link) where
  waiting : (from dep : ℕ) (b : Bool) → nat_lt dep nodes ≡ b → from < nodes → cond b dep from < nodes
  waiting from dep true e lt = grind (arith, nat_tests, e)
  waiting from dep false e lt = lt

  waited : (e : EdgeValue) (form : EdgeForm) → e.from < nodes → offers.dep_of (sort_of d nodes links e form) < nodes
  waited e ToBase lt = omega (arith, lt)
  waited e ToFeature lt = omega (arith, lt)
  waited e ToDependency lt = omega (arith, lt)
  waited e ByStrongEntries lt = omega (arith, lt)
  waited e (ByWeakEntries dep) lt = waiting e.from dep (nat_lt dep nodes) refl lt
  waited e ByLines lt = omega (arith, lt)

  abbrev IsWithin : Edge → Type 0
  IsWithin x = (x.from < nodes) × (x.to < nodes) × (offers.dep_of x.sort < nodes)

  pub offers_within : (edges : List EdgeValue) → AreEdgesWithin nodes links edges → offers.AreEdgesWithin nodes (offer_edges d nodes links edges)
  offers_within edges within = All-map IsWithin (offer_edge d nodes links) edges (All-from_Contains (λ e. IsWithin (offer_edge d nodes links e)) edges each)
    where
      each : (e : EdgeValue) → Contains edges e → IsWithin (offer_edge d nodes links e)
      each e h =
          let ends = All-contains (IsEdgeWithin nodes links) edges e within h in
          (ends.from, ends.to, waited e e.form ends.from)
