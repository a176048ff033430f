use Rattle.std.proofs.Common.{◌≡◌, ◌++◌, map, take}
use Rattle.std.specs.List.{flat_map}
use Rattle.feature_account_making.specs.SourceViews.{sourced_view}
use Rattle.feature_account_making.specs.Sources.{sourced_link}
use Rattle.feature_account_making.proofs.sourcing.push_links.Given as goal

abbrev pub invariant-loop-link : goal.invariant-loop-link
invariant-loop-link l = map sourced_view l.sourced.items ≡ map sourced_view l.fn.sourced.items ++ flat_map (sourced_link l.index l.table) (take l.link-index l.links)
