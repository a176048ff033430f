-- Features and edges of a graph, as they are told of by their numbers.
use Rattle.std.specs.Prelude.{ℕ, Bool, not, List}
use Rattle.std.specs.Borrow.{Bor}
use Rattle.workspace_record.specs.Features.{FeatureValue}
use Rattle.guppy_feature_demands.specs.declared.feature_id.FeatureId.{FeatureId}
use Rattle.guppy_feature_demands.specs.declared.link_declarations.LinkDeclarations.TheVariants.{Unsplit}
use Rattle.guppy_feature_demands.specs.IdViews.{id_view}
use Rattle.guppy_feature_nodes.specs.EdgeViews.{form_view, lines_view}
use Rattle.guppy_feature_nodes.specs.GraphEdges.{EdgeForm, EdgeValue, edge_at, is_always}
use Rattle.guppy_feature_nodes.specs.Graphs.{FeatureGraphValue, feature_at}
use Rattle.guppy_feature_nodes.specs.declared.feature_edge.FeatureEdge.{FeatureEdge}
use Rattle.guppy_feature_views.specs.Links.{LinkValue}

-- the edge stands on lines
abbrev pub is_conditional : FeatureGraphValue → ℕ → Bool
is_conditional g number = not (is_always (edge_at g.edges number).form)

-- an edge as one link
abbrev pub whole_link : FeatureGraphValue → ℕ → LinkValue
whole_link g number = record { graph = g; number = number; declarations = Unsplit }

-- an edge as it is told: its two features, why it is there, and the lines behind it
pub record ToldEdge : Type 0 where
  pub from : FeatureValue
  pub to : FeatureValue
  pub form : EdgeForm
  pub lines : List (ℕ × ℕ)

abbrev pub told_of : FeatureGraphValue → EdgeValue → ToldEdge
told_of g e = record { from = feature_at g e.from; to = feature_at g e.to; form = e.form; lines = e.lines }

abbrev pub told_at : FeatureGraphValue → ℕ → ToldEdge
told_at g number = told_of g (edge_at g.edges number)

abbrev pub told_view : FeatureId × FeatureId × Bor FeatureEdge → ToldEdge
told_view l = record { from = id_view l.0; to = id_view l.1; form = form_view l.2.now; lines = lines_view l.2.now }
