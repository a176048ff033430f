-- What a feature graph leads to over the links behind which a line counts.
use Rattle.std.specs.Prelude.{◌≡◌, ◌↔◌, ℕ, Bool, true, List, [], Contains, IsTrue, length}
use Rattle.numbered_graph.specs.declared.direction.Direction.TheVariants.{Forward}
use Rattle.numbered_graph.specs.Sets.{has}
use Rattle.numbered_offers.specs.declared.offer.Offer.{Offer}
use Rattle.numbered_offers.specs.Least.{IsClosed as AreEdgesClosed, IsLeast}
use Rattle.workspace_record.specs.Features.{FeatureValue}
use Rattle.workspace_record.specs.declared.choice.PlatformTable.{PlatformTable}
use Rattle.feature_account_rules.specs.Closed.{FeatureSet}
use Rattle.guppy_package_graph.specs.Directions.{direction_of}
use Rattle.guppy_feature_nodes.specs.Graphs.{FeatureGraphValue, feature_at}
use Rattle.guppy_feature_nodes.specs.Offering.{offers_of}
use Rattle.guppy_feature_graph.specs.Links.{link_of}
use Rattle.guppy_feature_graph.specs.Queries.{QueryValue}
use Rattle.guppy_feature_graph.specs.Sets.{SetValue}
use Rattle.test_select_feature_laws.specs.Verdicts.{HasCountingLine}

-- the test passes the offers behind which a line counts, and no other
abbrev pub PassesCounting : PlatformTable → FeatureGraphValue → (Offer → Bool) → Type 0
PassesCounting table g accepts = (o : Offer) → IsTrue (accepts o) ↔ HasCountingLine table (link_of g o)

-- the feature lies in each set that has the features of the nodes at which it begins and is closed under the edges that lead
-- always and the offers behind which a line counts
abbrev pub IsLedTo : PlatformTable → FeatureGraphValue → (ℕ → Type 0) → FeatureValue → Type 0
IsLedTo table g begins f =
    (accepts : Offer → Bool)
    → PassesCounting table g accepts
    → (s : FeatureSet)
    → ((v : ℕ) → begins v → s (feature_at g v) ≡ true)
    → AreEdgesClosed Forward (offers_of Forward g) [] accepts (λ v. s (feature_at g v) ≡ true)
    → s f ≡ true

-- these nodes lead to the features that were found, and to no other
abbrev pub LeadsTo : PlatformTable → FeatureGraphValue → (ℕ → Type 0) → List FeatureValue → Type 0
LeadsTo table g begins found = (f : FeatureValue) → Contains found f ↔ IsLedTo table g begins f

-- the set is of the query's graph, and the least that has its initials and is closed under the edges that lead always and the
-- offers behind which a line counts
pub record IsLeastBy (table : PlatformTable) (q : QueryValue) (s : SetValue) : Type 0 where
  pub graph : s.graph ≡ q.graph
  pub sized : length s.included ≡ length q.graph.nodes
  pub accepts : Offer → Bool
  pub counting : PassesCounting table q.graph accepts
  pub least : IsLeast (direction_of q.direction) (offers_of (direction_of q.direction) q.graph) q.initials accepts (λ v. IsTrue (has s.included v))
