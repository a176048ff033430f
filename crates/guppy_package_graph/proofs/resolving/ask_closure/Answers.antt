use Rattle.std.proofs.Common.{◌∙◌}
use Rattle.guppy_package_graph.proofs.resolving.ask_closure.Goals as goal

pub returns-clause-asks : goal.returns-clause-asks
returns-clause-asks g c = record { cx = _; link = c.link_at-link.result; of_query = c.of-cx.ensures; of_graph = c.link_at-link.ensures.graph ∙ c.graph.ensures.graph; of_number = c.link_at-link.ensures.number; called = c.accepts.ensures }
