use Rattle.std.proofs.Common.{◌≡◌, ◌++◌, map, take, string_bytes}
use Rattle.std.specs.List.{flat_map}
use Rattle.guppy_package_parts.specs.WarningViews.{warning_view}
use Rattle.guppy_feature_demands.specs.StageViews.{place_view}
use Rattle.guppy_feature_demands.specs.Warnings.{missing}
use Rattle.guppy_feature_demands.specs.Nodes.{named_of}
use Rattle.guppy_feature_demands.proofs.warnings.push_listed.Given as goal

abbrev pub invariant-loop-name : goal.invariant-loop-name
invariant-loop-name l = map warning_view l.warnings.items ≡ map warning_view l.fn.warnings.items ++ flat_map (λ x. missing l.nodes (place_view l.stage) (named_of l.to.text.now x)) (map string_bytes (take l.name-index l.names))
