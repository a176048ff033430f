use Rattle.std.proofs.Common.{◌≡◌, map, string_bytes, take}
use Rattle.cargo_files.proofs.listings.first_repeated.Given as goal

abbrev pub invariant-loop-name : goal.invariant-loop-name
invariant-loop-name l = map (λ t. t.now) l.lent.items ≡ map string_bytes (take l.name-index l.names)
