use Rattle.std.proofs.Common.{◌≡◌, flat_map, take}
use Rattle.cargo_files.specs.Meaning.{member_feature}
use Rattle.cargo_files.proofs.meaning.features_among.Given as goal

abbrev pub invariant-loop-package : goal.invariant-loop-package
invariant-loop-package l = l.features.items ≡ flat_map (member_feature l.index l.name) (take l.package-index l.packages)
