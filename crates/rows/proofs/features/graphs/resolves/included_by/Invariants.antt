use Rattle.rows.proofs.features.graphs.resolves.included_by.Given as goal

-- the ledger of the blank
abbrev pub ghosts-counted : goal.ghosts-counted
ghosts-counted a = record { name = a.blank.name; parts = a.blank.parts }
