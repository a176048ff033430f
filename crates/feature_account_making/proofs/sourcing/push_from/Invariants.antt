use Rattle.std.proofs.Common.{◌≡◌, ◌++◌, map}
use Rattle.feature_account_making.specs.SourceViews.{sourced_view, source_view}
use Rattle.feature_account_making.specs.Sources.{from_source}
use Rattle.feature_account_making.proofs.sourcing.push_from.Given as goal

abbrev pub invariant-loop-rule : goal.invariant-loop-rule
invariant-loop-rule l = map sourced_view l.sourced.items ≡ map sourced_view l.fn.sourced.items ++ from_source (source_view l.source) l.yielded
