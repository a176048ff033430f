use Rattle.numbered_offers.proofs.LeastFacts.{least_set}
use Rattle.numbered_offers.proofs.laws.least.Goals as goal

pub returns : goal.returns
returns c = record { least = least_set }
