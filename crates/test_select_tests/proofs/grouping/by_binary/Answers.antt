use Rattle.std.proofs.Common.{[], ◌∷◌, map, sym, subst}
use Rattle.std.proofs.lemmas.List.{map-append}
use Rattle.list_facts.specs.Texts.{pair_of}
use Rattle.test_select_tests.specs.Grouping.{IsByBinary, group_of}
use Rattle.test_select_tests.proofs.grouping.by_binary.Goals as goal

pub loop-id-preserved : goal.loop-id-preserved
loop-id-preserved c =
    subst (λ pairs. IsByBinary pairs (map group_of c.push_test.new.groups.items)) (sym (map-append pair_of c.loop-id.yielded ((c.in-Some.id, c.in-Some.test) ∷ []))) (c.in_ok-push_test.ensures (map pair_of c.loop-id.yielded) c.loop-id.invariant)
