use Rattle.std.proofs.Common.{◌≡◌, length, map, Some}
use Rattle.guppy_package_parts.specs.LineViews.{lines_of}
use Rattle.guppy_package_parts.specs.PlatformViews.{spec_view}
use Rattle.guppy_package_parts.specs.Statuses.{given_specs, status_of}
use Rattle.guppy_package_parts.specs.StatusViews.{eval_specs}
use Rattle.guppy_package_parts.specs.Ternaries.{greater}
use Rattle.guppy_package_parts.proofs.platform_status.PlatformEval.eval.Given as goal

abbrev pub invariant-loop-spec : goal.invariant-loop-spec
invariant-loop-spec g l =
    let asked = spec_view g.P.Platform.answers l.platform_spec in
    greater l.greatest (status_of asked (map Some (given_specs (lines_of l.left)))) ≡ status_of asked (map Some (eval_specs l.self))

abbrev pub decreases-loop-spec : goal.decreases-loop-spec
decreases-loop-spec g l = length (given_specs (lines_of l.left))
