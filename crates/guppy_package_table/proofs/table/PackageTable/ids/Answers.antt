use Rattle.guppy_package_table.proofs.table.PackageTable.ids.Goals as goal

pub returns-clause-apart : goal.returns-clause-apart
returns-clause-apart c = rw (← c.self.view_is) c.self.invariant.0.ids_apart
