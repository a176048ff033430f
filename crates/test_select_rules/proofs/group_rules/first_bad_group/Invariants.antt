use Rattle.std.proofs.Common.{◌≡◌, map, take}
use Rattle.test_select_rules.proofs.group_rules.first_bad_group.Given as goal

abbrev pub invariant-loop-group : goal.invariant-loop-group
invariant-loop-group l = map (λ t. t.now) l.names.items ≡ map (λ g. g.name) (take l.group-index l.groups)
