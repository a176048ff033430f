use Rattle.record_files.specs.Listings.{test_names, listing_of}
use Rattle.record_files.proofs.Members.{Kept}
use Rattle.record_files.proofs.listings.listings_of.Given as goal

abbrev pub invariant-loop-id : goal.invariant-loop-id
invariant-loop-id l = Kept test_names listing_of l.members.entries l.listings.entries l.id-iterator
