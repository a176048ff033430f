use Rattle.std.proofs.Common.{map}
use Rattle.cargo_files.specs.Added.{listing}
use Rattle.cargo_workspace.proofs.ListFacts.{list_adds}
use Rattle.cargo_workspace.proofs.lists.add_list.Goals as goal

pub returns-clause-adds : goal.returns-clause-adds
returns-clause-adds g c =
    list_adds c.args.folder.now c.args.built c.args.id.now (map listing c.args.listings.now.items) (map listing c.add_listing.new.listings.items) _ c.add_listing.result c.in_ok-tests.ensures.reads c.add_listing.ensures.added c.add_listing.ensures.refused
