use Rattle.std.proofs.Common.{[], sym, subst, map, string_bytes}
use Rattle.cargo_files.specs.Terse.{ListTests, nothing}
use Rattle.cargo_files.proofs.TerseFacts.{tests_more}
use Rattle.cargo_files.proofs.terse.tests_among.Goals as goal

pub loop-place-init : goal.loop-place-init
loop-place-init c = subst (λ xs. ListTests [] (map string_bytes xs)) (sym c.new-tests.ensures.items) nothing

pub loop-place-preserved : goal.loop-place-preserved
loop-place-preserved c =
    tests_more c.args.lines.now c.loop-place.place _ c.in_ok-take_line.field-0 (map string_bytes c.loop-place.tests.items) (map string_bytes c.take_line.new.tests.items) c.loop-place-test.true c.if-not-branch.false c.loop-place.invariant c.in_ok-take_line.ensures
