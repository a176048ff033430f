use Rattle.std.proofs.Common.{map, string_bytes}
use Rattle.cargo_files.proofs.TerseFacts.{pushed, takes_if_benchmark, takes_rest, takes_test}
use Rattle.cargo_files.proofs.terse.take_line.Goals as goal

pub returns-in-Some : goal.returns-in-Some
returns-in-Some c =
    let some = rw c.in-Some.is at c.before-2.ensures.some in
    takes_test c.args.line.now c.in-Some.name.now (map string_bytes c.args.tests.now.items) (map string_bytes c.push.new.self.items) some (pushed c.args.tests.now.items c.push.new.self.items _ c.in-Some.name.now c.in_ok-push.ensures.items c.in_ok-from_str.ensures.ok)

pub returns-then-is_some : goal.returns-then-is_some
returns-then-is_some c =
    takes_if_benchmark c.args.line.now c.before-3.result c.is_some.result (map string_bytes c.args.tests.now.items) c.before-3.ensures.some c.is_some.ensures c.if-is_some.true

pub returns-else-is_some : goal.returns-else-is_some
returns-else-is_some c =
    takes_rest c.args.line.now c.before-2.result c.before-3.result c.is_empty.result c.is_some.result (map string_bytes c.args.tests.now.items) c.before-2.ensures.none c.in_default.not-Some c.before-3.ensures.none c.is_some.ensures c.if-is_some.false c.is_empty.ensures
