use Rattle.std.proofs.Common.{◌≡◌, ◌++◌, flat_map, take}
use Rattle.workspace_record.specs.Records.{Target}
use Rattle.guppy_package_parts.specs.BuildTargets.{id_of}
use Rattle.nextest_filtering.specs.Contexts.{binary_kind, named_binary}
use Rattle.nextest_filtering.proofs.context_names.push_binaries.Given as goal

abbrev pub invariant-loop-target : goal.invariant-loop-target
invariant-loop-target l =
    l.binaries.items ≡ l.fn.binaries.items ++ flat_map (λ (t : Target). named_binary l.row.name t.name (binary_kind (id_of t.kind t.name))) (take l.target-index l.row.targets)
