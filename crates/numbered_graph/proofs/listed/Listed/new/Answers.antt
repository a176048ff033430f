use Rattle.numbered_graph.specs.Sets.{has}
use Rattle.numbered_graph.proofs.ListingFacts.{IsListing-filter}
use Rattle.numbered_graph.proofs.listed.Listed.new.Goals as goal

pub returns-clause-listing : goal.returns-clause-listing
returns-clause-listing c = λ links firm all h. IsListing-filter links firm all (has c.args.members.now) c.args.listing.now h
