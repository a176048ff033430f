use Rattle.numbered_offers.specs.Edges.{required_half}
use Rattle.guppy_feature_graph.proofs.ResolveFacts.{one_asked, required_asked}
use Rattle.guppy_feature_graph.proofs.resolving.ask_due.Goals as goal

pub ask-requires : goal.ask-requires
ask-requires g c = c.requires c.in-One.offer (one_asked c.args.due c.in-One.offer c.in-One.is)

pub ask-required-requires : goal.ask-required-requires
ask-required-requires g c = c.requires (required_half c.in-Halves.edge) (required_asked c.args.due c.in-Halves.edge c.in-Halves.is)

pub ask-optional-requires : goal.ask-optional-requires
ask-optional-requires g c = c.requires (required_half c.in-Halves.edge) (required_asked c.args.due c.in-Halves.edge c.in-Halves.is)
