use Rattle.rows.proofs.numbers.offers.walked.walk_in.Given as goal

-- the ledger of the blank
abbrev pub ghosts-walk_with_blank : goal.ghosts-walk_with_blank
ghosts-walk_with_blank a = record { name = a.blank.name; parts = a.blank.parts }
