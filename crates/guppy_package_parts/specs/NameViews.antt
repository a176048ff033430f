use Rattle.std.specs.Prelude.{List, ◌++◌, filter, option_map}
use Rattle.workspace_record.specs.Records.{Text}
use Rattle.guppy_package_parts.specs.LineViews.{is_line_of}
use Rattle.guppy_package_parts.specs.Names.{each_once, is_above, listed}
use Rattle.guppy_package_parts.specs.declared.requirement_features.Names.{Names}
use Rattle.guppy_package_parts.specs.declared.requirement_features.RequirementFeatures.{RequirementFeatures}

-- the names that are still to come
abbrev pub names_left : Names → List Text
names_left names = filter (is_above (option_map (λ last. last.now) names.last)) (each_once (listed (filter (is_line_of names.test) names.lines.now)))

-- the features that are still to come
abbrev pub features_left : RequirementFeatures → List Text
features_left features = names_left features.required ++ names_left features.optional
