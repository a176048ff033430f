use Rattle.numbered_graph.proofs.uncounted.take_uncounted.Given as goal

-- the ledger of the blank
abbrev pub ghosts-take_with_blank : goal.ghosts-take_with_blank
ghosts-take_with_blank a = record { name = a.blank.name; parts = a.blank.parts }
