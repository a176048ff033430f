use Rattle.std.proofs.Common.{◌-◌, length, arith}
use Rattle.test_select_tests.proofs.GroupFacts.{tells_last}
use Rattle.test_select_tests.proofs.grouping.is_of_last.Goals as goal

pub returns-in-Some : goal.returns-in-Some
returns-in-Some c =
    let found = c.in-Some.ensures.item in
    let some = found.3.0 in
    let groups = c.args.groups.now in
    tells_last groups (length groups - 1) c.in-Some.last.now (omega arith) found.1 c.args.id.now c.eq.result c.eq.ensures
