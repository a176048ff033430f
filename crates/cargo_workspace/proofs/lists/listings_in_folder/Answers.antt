use Rattle.std.proofs.Common.{String, Vec, map, string_bytes}
use Rattle.std.specs.Global.{Global}
use Rattle.cargo_files.specs.Added.{listing}
use Rattle.cargo_workspace.proofs.ListFacts.{folder_asks}
use Rattle.cargo_workspace.proofs.lists.listings_in_folder.Goals as goal

pub returns-clause-reads : goal.returns-clause-reads
returns-clause-reads g c =
    folder_asks (λ (v : Vec (String Global × Vec (String Global) Global) Global). map listing v.items) c.args.folder c.args.built (map string_bytes c.args.ids.now) c.folder_listings-listings.result c.accepted.result c.accepted.ensures.accepted c.folder_listings-listings.ensures.adds
