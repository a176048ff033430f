use Rattle.numbered_graph.proofs.reaching.reach_over.Given as goal

-- the ledger of the blank
abbrev pub ghosts-reach_with_blank : goal.ghosts-reach_with_blank
ghosts-reach_with_blank a = record { name = a.blank.name; parts = a.blank.parts }
