use Rattle.std.proofs.Common.{◌≡◌, None, filter, take}
use Rattle.std.specs.Option.{option_map}
use Rattle.guppy_package_parts.specs.LineViews.{is_line_of}
use Rattle.guppy_package_parts.specs.Names.{is_above, listed, lowest_from}
use Rattle.guppy_package_parts.proofs.requirement_features.lowest_above.Given as goal

abbrev pub invariant-loop-line : goal.invariant-loop-line
invariant-loop-line l =
    option_map (λ t. t.now) l.lowest ≡ lowest_from None (filter (is_above (option_map (λ t. t.now) l.last)) (listed (filter (is_line_of l.test) (take l.line-index l.lines))))
