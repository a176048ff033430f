use Rattle.guppy_package_table.proofs.table.PackageTable.listing.Goals as goal

pub returns-clause-listing : goal.returns-clause-listing
returns-clause-listing c = rw (← c.self.view_is, c.deref.ensures.value) c.self.invariant.1.listing
