use Rattle.std.proofs.Common.{Bool, ◌&&◌, position, not, ap, rules, tests, ◌∙◌}
use Rattle.std.proofs.lemmas.Iterator.{YieldsList-from_slice}
use Rattle.std.proofs.lemmas.Iterator.Search.{position_from_yields_List}
use Rattle.workspace_record.specs.Records.{Link}
use Rattle.guppy_package_rules.specs.Found.{finds}
use Rattle.guppy_package_rules.proofs.FoundFacts.{is_found}
use Rattle.guppy_package_rules.proofs.link_rules.first_unknown_end.Goals as goal

pub returns : goal.returns
returns c =
    let found = is_found c.in_ok-ids.ids c.args.packages.now c.in_ok-ids.ensures in
    let place = position_from_yields_List (λ (l : Link). not (finds c.in_ok-ids.ids l.from && finds c.in_ok-ids.ids l.to)) _ _ _ c.position-place.ensures.ran (YieldsList-from_slice c.args.links.now c.iter.ensures.rest) (λ x b q k. search (rules, tests)) in
    place ∙ ap (λ (test : Link → Bool). position test c.args.links.now) (λ i l. not (found l.from i && found l.to i))
