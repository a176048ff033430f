use Rattle.std.proofs.Common.{map, string_bytes, take}
use Rattle.serde_json.specs.View.{view}
use Rattle.cargo_files.specs.Added.{listing}
use Rattle.cargo_files.specs.Listed.{AreSuites}
use Rattle.cargo_files.proofs.listings.listed_by_nextest.Given as goal

abbrev pub invariant-loop-id : goal.invariant-loop-id
invariant-loop-id l = AreSuites (view l.list) (map string_bytes (take l.id-index l.ids)) l.built (map listing l.listings.items)
