use Rattle.library_tests.proofs.graphs.features.resolves.counts_looks.Given as goal

-- the ledger of the blank
abbrev pub ghosts-counted : goal.ghosts-counted
ghosts-counted g a = record { name = a.blank.name; parts = a.blank.parts }
