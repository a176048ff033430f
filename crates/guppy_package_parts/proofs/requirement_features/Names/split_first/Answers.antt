use Rattle.std.proofs.Common.{filter}
use Rattle.std.specs.Option.{option_map}
use Rattle.guppy_package_parts.specs.LineViews.{is_line_of}
use Rattle.guppy_package_parts.specs.Names.{listed}
use Rattle.guppy_package_parts.proofs.EachOnce.{next_left, none_left}
use Rattle.guppy_package_parts.proofs.requirement_features.Names.split_first.Goals as goal

pub returns-in-None : goal.returns-in-None
returns-in-None c =
    let names = c.args.self in
    none_left (option_map (λ t. t.now) names.last) (listed (filter (is_line_of names.test) names.lines.now)) c.in-None.ensures

pub returns-in-Some : goal.returns-in-Some
returns-in-Some c =
    let names = c.args.self in
    next_left (option_map (λ t. t.now) names.last) (listed (filter (is_line_of names.test) names.lines.now)) c.in-Some.name.now c.in-Some.ensures
