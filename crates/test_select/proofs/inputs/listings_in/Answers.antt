use Rattle.std.proofs.Common.{◌≡◌, String, Vec, map, rules}
use Rattle.std.specs.BTreeMap.{BTreeMap}
use Rattle.std.specs.Global.{Global}
use Rattle.record_files.specs.Listings.{listing, listings_file}
use Rattle.test_select_files.proofs.ReadingFacts.{accepted_asks}
use Rattle.test_select.proofs.inputs.listings_in.Goals as goal

pub returns-clause-reads : goal.returns-clause-reads
returns-clause-reads g c =
    let lent : c.deref.result.now ≡ c.in_ok-bytes.bytes.items = search rules in
    accepted_asks (λ (m : BTreeMap (String Global) (Vec (String Global) Global)). map listing m.entries) listings_file c.args.name _ _ _ _ c.in_ok-bytes.ensures.reads lent c.read_listings.ensures.reads c.accepted.ensures.accepted
