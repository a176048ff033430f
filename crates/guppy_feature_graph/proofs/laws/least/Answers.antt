use Rattle.guppy_package_graph.specs.Directions.{direction_of}
use Rattle.guppy_feature_graph.specs.Links.{link_of}
use Rattle.guppy_feature_graph.specs.Resolves.{offered_edges}
use Rattle.guppy_feature_graph.proofs.laws.least.Goals as goal

pub returns : goal.returns
returns c = record { least = λ q accepts run. c.least.ensures.least (direction_of q.direction) (offered_edges q) q.initials (λ o. accepts (link_of q.graph o)) run }
