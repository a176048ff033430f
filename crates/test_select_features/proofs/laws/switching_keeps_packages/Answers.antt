use Rattle.std.proofs.Common.{ap}
use Rattle.guppy_package_table.specs.Tables.{ids_of}
use Rattle.test_select_features.proofs.laws.switching_keeps_packages.Goals as goal

pub returns : goal.returns
returns c = λ g switched on table h. ap ids_of h.rows
