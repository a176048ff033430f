use Rattle.guppy_feature_graph.proofs.resolving.ask_closure.Goals as goal

pub returns-clause-asks : goal.returns-clause-asks
returns-clause-asks g c = record { cx = _; link = c.link_of-link.result; of_query = c.of-cx.ensures; of_offer = c.link_of-link.ensures; called = c.accepts.ensures }
