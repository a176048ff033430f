use Rattle.std.proofs.Common.{◌≡◌, map, take, string_bytes}
use Rattle.guppy_package_rules.specs.Rules.{target_key}
use Rattle.guppy_package_rules.proofs.target_rules.has_distinct_targets.Given as goal

abbrev pub invariant-loop-target : goal.invariant-loop-target
invariant-loop-target l = map string_bytes l.keys.items ≡ map (λ t. target_key t.kind t.name) (take l.target-index l.row.targets)
