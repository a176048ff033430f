use Rattle.std.proofs.Common.{◌≡◌, drop, map}
use Rattle.serde_json.specs.Data.{no_members}
use Rattle.serde_json.specs.View.{members_view}
use Rattle.record_files.specs.Listings.{listing}
use Rattle.record_writing.specs.Maps.{listing_member}
use Rattle.record_writing.specs.Members.{put_all}
use Rattle.record_writing.proofs.listings.listings_object.Given as goal

abbrev pub invariant-loop-id : goal.invariant-loop-id
invariant-loop-id l = put_all (map listing_member (map listing (drop l.id-index l.listings))) (members_view l.object.entries) ≡ put_all (map listing_member (map listing l.listings)) no_members
