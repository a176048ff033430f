use Rattle.std.proofs.Common.{◌≡◌, map, take}
use Rattle.cargo_record.specs.Kept.{kept_row}
use Rattle.cargo_record.proofs.packages.kept_rows.Given as goal

abbrev pub invariant-loop-package : goal.invariant-loop-package
invariant-loop-package l = l.rows.items ≡ map kept_row (take l.package-index l.packages)
