use Rattle.std.proofs.Common.{◌↔◌, Contains, map, take}
use Rattle.workspace_record.specs.Records.{Text}
use Rattle.nextest_filtering.proofs.matching.id_set.Given as goal

abbrev pub invariant-loop-id : goal.invariant-loop-id
invariant-loop-id l = (id : Text) → Contains l.set.keys id ↔ Contains (map (λ i. i.now) (take l.id-index l.ids)) id
