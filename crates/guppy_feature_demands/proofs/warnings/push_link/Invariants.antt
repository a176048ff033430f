use Rattle.std.proofs.Common.{◌≡◌, ◌++◌, map, take}
use Rattle.std.specs.List.{flat_map}
use Rattle.guppy_package_parts.specs.WarningViews.{warning_view}
use Rattle.guppy_feature_demands.specs.Warnings.{line_warnings}
use Rattle.guppy_feature_demands.proofs.warnings.push_link.Given as goal

abbrev pub invariant-loop-line : goal.invariant-loop-line
invariant-loop-line l = map warning_view l.warnings.items ≡ map warning_view l.fn.warnings.items ++ flat_map (line_warnings l.nodes l.link.at.row.now) (take l.line-index l.lines)
