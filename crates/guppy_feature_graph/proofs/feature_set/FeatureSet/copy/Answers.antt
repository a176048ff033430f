use Rattle.std.proofs.Common.{◌∙◌, ap, List, Bool}
use Rattle.guppy_package_graph.proofs.SetFacts.{same_flags}
use Rattle.guppy_feature_graph.specs.Views.{feature_graph_of}
use Rattle.guppy_feature_graph.specs.Sets.{SetValue}
use Rattle.guppy_feature_graph.proofs.SetFacts.{ok_is}
use Rattle.guppy_feature_graph.proofs.feature_set.FeatureSet.copy.Goals as goal

pub returns : goal.returns
returns c =
    let with : List Bool → SetValue = λ i. record { graph = feature_graph_of c.self.inside.graph; included = i } in
    record { same = ok_is _ _ c.found.result c.found.ensures (ap with (same_flags _ _ c.in_ok-included.ensures.sized c.in_ok-included.ensures.members) ∙ c.self.view_is) }
