use Rattle.std.proofs.Common.{ap, ◌∙◌}
use Rattle.numbered_offers.specs.OfferWalks.{OfferWalkValue}
use Rattle.numbered_offers.proofs.offer_walk.OfferWalk.answer.Goals as goal

pub settle-requires : goal.settle-requires
settle-requires c = record { waits = c.self.invariant.waits c.args.due (ap (λ (v : OfferWalkValue). v.waiting) c.self.view_is ∙ c.requires) }
