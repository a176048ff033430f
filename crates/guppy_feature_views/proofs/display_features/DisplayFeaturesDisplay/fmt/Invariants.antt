use Rattle.std.proofs.Common.{map, take}
use Rattle.std.specs.Fmt.{HasWritten, IsPlainFormatter}
use Rattle.guppy_package_parts.specs.SortedSets.{joined_rest}
use Rattle.guppy_feature_demands.specs.LabelViews.{label_view}
use Rattle.guppy_feature_demands.specs.Printing.{label_text}
use Rattle.guppy_feature_views.proofs.display_features.DisplayFeaturesDisplay.fmt.Given as goal

abbrev pub invariant-loop-other : goal.invariant-loop-other
invariant-loop-other g l =
    IsPlainFormatter l.initial.f → HasWritten g.W.Write.write_str_gives l.initial.f (joined_rest (map label_text (map label_view (take l.other-index l.others)))) l.f
