use Rattle.test_select_rules.proofs.features.FeaturesOn.contains.Given as goal

-- the ledger of the blank
abbrev pub ghosts-contains_with_blank : goal.ghosts-contains_with_blank
ghosts-contains_with_blank a = record { name = a.blank.name; parts = a.blank.parts }
