use Rattle.cargo_workspace.proofs.RunFacts.{asked_makes}
use Rattle.cargo_workspace.proofs.conversions.text_made.Goals as goal

pub returns-in-Some-conversion_named-clause-makes : goal.returns-in-Some-conversion_named-clause-makes
returns-in-Some-conversion_named-clause-makes g c =
    asked_makes c.args.matches.now _ _ c.in-Some.ensures.name c.in-Some.ensures.rows _ _ c.in-Some-conversion_named.ensures.conversion c.converted.ensures.makes
