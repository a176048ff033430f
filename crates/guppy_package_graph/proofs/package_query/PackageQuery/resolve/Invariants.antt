use Rattle.guppy_package_graph.proofs.package_query.PackageQuery.resolve.Given as goal

-- the ledger of the blank
abbrev pub ghosts-resolve_with_blank : goal.ghosts-resolve_with_blank
ghosts-resolve_with_blank a = record { name = a.blank.name; parts = a.blank.parts }
