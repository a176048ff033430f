use Rattle.std.proofs.Common.{◌≡◌, map, take}
use Rattle.guppy_feature_demands.specs.Numbered.{numbered}
use Rattle.guppy_feature_demands.specs.NumberedViews.{ends_view}
use Rattle.guppy_feature_demands.proofs.numbered.numbered_links.Given as goal

abbrev pub invariant-loop-number : goal.invariant-loop-number
invariant-loop-number l = map ends_view l.all.items ≡ numbered (take l.number l.links)
