use Rattle.guppy_package_graph.proofs.package_query.PackageQuery.resolve_with.Given as goal

-- the ledger of the blank
abbrev pub ghosts-resolve_by_visitor : goal.ghosts-resolve_by_visitor
ghosts-resolve_by_visitor g a = record { name = a.blank.name; parts = a.blank.parts }
