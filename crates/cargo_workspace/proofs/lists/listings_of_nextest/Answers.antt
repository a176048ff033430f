use Rattle.std.proofs.Common.{◌≡◌, rules, String, Vec, map, refl, string_bytes}
use Rattle.std.specs.Global.{Global}
use Rattle.cargo_files.specs.Added.{listing}
use Rattle.cargo_files.specs.Listed.{AreListed}
use Rattle.cargo_files.specs.Refused.{RefusesNextest}
use Rattle.cargo_workspace.proofs.ReadingFacts.{made_asks, unmade_asks}
use Rattle.cargo_workspace.proofs.lists.listings_of_nextest.Goals as goal

pub returns-in_err-bytes-clause-reads : goal.returns-in_err-bytes-clause-reads
returns-in_err-bytes-clause-reads g c =
    unmade_asks (λ (v : Vec (String Global × Vec (String Global) Global) Global). map listing v.items) (λ printed listings. AreListed printed (map string_bytes c.args.ids.now) c.args.built listings) (λ printed why. RefusesNextest printed (map string_bytes c.args.ids.now) c.args.built why) c.args.name _ refl c.in_err-bytes.field-0.0 _ c.from_residual.ensures.1 c.in_err-bytes.ensures.reads

pub returns-clause-reads : goal.returns-clause-reads
returns-clause-reads g c =
    let lent : c.deref.result.now ≡ c.in_ok-bytes.bytes.items = search rules in
    made_asks (λ (v : Vec (String Global × Vec (String Global) Global) Global). map listing v.items) (λ printed listings. AreListed printed (map string_bytes c.args.ids.now) c.args.built listings) (λ printed why. RefusesNextest printed (map string_bytes c.args.ids.now) c.args.built why) c.args.name _ refl _ _ _ _ c.in_ok-bytes.ensures.reads lent c.nextest_listings.ensures.listed c.nextest_listings.ensures.refused c.accepted.ensures.accepted
