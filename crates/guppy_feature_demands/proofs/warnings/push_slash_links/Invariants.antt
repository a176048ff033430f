use Rattle.std.proofs.Common.{◌≡◌, ◌++◌, map, take}
use Rattle.guppy_package_parts.specs.WarningViews.{warning_view}
use Rattle.guppy_feature_demands.specs.StageViews.{place_view}
use Rattle.guppy_feature_demands.specs.Warnings.{slash_warnings}
use Rattle.guppy_feature_demands.specs.NumberedViews.{link_view}
use Rattle.guppy_feature_demands.proofs.warnings.push_slash_links.Given as goal

abbrev pub invariant-loop-link : goal.invariant-loop-link
invariant-loop-link l = map warning_view l.warnings.items ≡ map warning_view l.fn.warnings.items ++ slash_warnings l.nodes (place_view l.stage) l.feature (map link_view (take l.link-index l.links))
