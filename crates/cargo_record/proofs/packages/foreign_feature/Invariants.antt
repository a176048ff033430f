use Rattle.std.proofs.Common.{◌≡◌, map, string_bytes, take, true}
use Rattle.std.specs.List.{list_all}
use Rattle.cargo_record.specs.Kept.{is_feature}
use Rattle.cargo_record.proofs.packages.foreign_feature.Given as goal

abbrev pub invariant-loop-name : goal.invariant-loop-name
invariant-loop-name l = list_all (is_feature l.features) (map string_bytes (take l.name-index l.required)) ≡ true
