use Rattle.std.proofs.Common.{map, take}
use Rattle.guppy_feature_demands.specs.LinkNames.{NamesLinks}
use Rattle.guppy_feature_demands.specs.NumberedViews.{ends_view}
use Rattle.guppy_feature_demands.proofs.link_names.link_names.Given as goal

abbrev pub invariant-loop-ends : goal.invariant-loop-ends
invariant-loop-ends l = NamesLinks (map ends_view (take l.ends-index l.links)) l.names
