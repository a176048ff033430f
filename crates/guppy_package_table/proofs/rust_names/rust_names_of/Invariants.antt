use Rattle.std.proofs.Common.{◌≡◌, map, string_bytes, take}
use Rattle.guppy_package_table.specs.LinkRows.{name_in_rust}
use Rattle.guppy_package_table.proofs.rust_names.rust_names_of.Given as goal

abbrev pub invariant-loop-row : goal.invariant-loop-row
invariant-loop-row l = map string_bytes l.names.items ≡ map (λ r. name_in_rust r.name) (take l.row-index l.links)
