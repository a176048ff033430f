use Rattle.std.proofs.Common.{◌≡◌, map, subst, take_all}
use Rattle.test_select_rules.specs.BinaryView.{binary_view}
use Rattle.test_select_rules.specs.Told.{told_by, told_of}
use Rattle.test_select_tests.proofs.ChoosingFacts.{ids_told}
use Rattle.test_select_tests.proofs.asking.infos.Goals as goal

pub returns-clause-ids : goal.returns-clause-ids
returns-clause-ids c =
    let asked = c.args.asked.now in
    let told = map told_by c.loop-binary.infos.items in
    ids_told c.loop-binary.infos.items (map binary_view asked) (subst (λ bs. told ≡ map told_of (map binary_view bs)) (take_all c.loop-binary.binary-index asked c.loop-binary-test.false) c.loop-binary.invariant)
