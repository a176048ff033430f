use Rattle.std.proofs.Common.{refl}
use Rattle.numbered_offers.specs.Edges.{required_half}
use Rattle.guppy_feature_graph.proofs.ResolveFacts.{one_asked, required_asked}
use Rattle.guppy_feature_graph.proofs.resolving.ask_closure_due.Goals as goal

pub ask_closure-requires : goal.ask_closure-requires
ask_closure-requires g c = λ k. ((refl, tt), (c.requires.callable, c.requires.within c.in-One.offer (one_asked c.args.due c.in-One.offer c.in-One.is)))

pub ask_closure-required-requires : goal.ask_closure-required-requires
ask_closure-required-requires g c = λ k. ((refl, tt), (c.requires.callable, c.requires.within (required_half c.in-Halves.edge) (required_asked c.args.due c.in-Halves.edge c.in-Halves.is)))

pub ask_closure-optional-requires : goal.ask_closure-optional-requires
ask_closure-optional-requires g c = λ k. ((refl, tt), (c.ask_closure-required.ensures.callable, c.requires.within (required_half c.in-Halves.edge) (required_asked c.args.due c.in-Halves.edge c.in-Halves.is)))
