use Rattle.std.proofs.Common.{◌∙◌, ap, map}
use Rattle.list_facts.specs.Texts.{pair_of}
use Rattle.test_select_tests.specs.Partitions.{part_of}
use Rattle.test_select_tests.proofs.PartFacts.{map-part_of}
use Rattle.test_select_tests.proofs.selection.Selection.in_part.Goals as goal

pub returns : goal.returns
returns c =
    let m = c.args.partition.part in
    let n = c.args.partition.parts in
    let chosen = ap (map pair_of) c.in_ok-tests_in.ensures ∙ map-part_of pair_of m n c.into_lists-chosen.result.0.items ∙ ap (part_of m n) c.into_lists-chosen.ensures.chosen in
    record { part = c.new.ensures ∙ (λ i. record { chosen = chosen i; asked = c.into_lists-chosen.ensures.asked i }) }
