use Rattle.std.proofs.Common.{◌≡◌, filter, map, take}
use Rattle.guppy_feature_views.specs.Views.{link_view}
use Rattle.guppy_feature_views.specs.Told.{is_conditional, whole_link}
use Rattle.guppy_feature_views.proofs.told.links_at.Given as goal

abbrev pub invariant-loop-number : goal.invariant-loop-number
invariant-loop-number l = map link_view l.links.items ≡ map (whole_link l.built) (filter (is_conditional l.built) (take l.number-index l.numbers))
