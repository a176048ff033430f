use Rattle.std.proofs.Common.{◌∙◌}
use Rattle.guppy_feature_graph.proofs.choosing.ask_about.Goals as goal

pub returns-clause-asks : goal.returns-clause-asks
returns-clause-asks g c = record { metadata = c.at.result; of_graph = c.at.ensures.graph ∙ c.built.ensures; of_node = c.at.ensures.node; called = c.callback.ensures }
