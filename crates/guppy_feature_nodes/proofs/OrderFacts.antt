-- The ends of edges lie between the nodes.
use Rattle.std.proofs.Common.{ℕ, ◌<◌, List, Contains}
use Rattle.std.proofs.lemmas.List.Elements.{All-contains, All-map}
use Rattle.list_facts.proofs.Quantifiers.{All-from_Contains}
use Rattle.numbered_graph.specs.Links.{AreWithin}
use Rattle.workspace_record.specs.Records.{Link}
use Rattle.guppy_feature_nodes.specs.GraphEdges.{AreEdgesWithin, EdgeValue, IsEdgeWithin, edge_ends, ends_of}

pub ends_within : (nodes : ℕ) (links : List Link) (edges : List EdgeValue) → AreEdgesWithin nodes links edges → AreWithin nodes (edge_ends edges)
ends_within nodes links edges within = All-map (λ l. (l.from < nodes) × (l.to < nodes)) ends_of edges (All-from_Contains (λ e. (e.from < nodes) × (e.to < nodes)) edges each)
  where
    each : (e : EdgeValue) → Contains edges e → (e.from < nodes) × (e.to < nodes)
    each e h = let ends = All-contains (IsEdgeWithin nodes links) edges e within h in (ends.from, ends.to)
