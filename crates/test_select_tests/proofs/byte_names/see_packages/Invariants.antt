use Rattle.std.proofs.Common.{All, take}
use Rattle.test_select_tests.specs.Questions.{IsBytePackage}
use Rattle.test_select_tests.proofs.byte_names.see_packages.Given as goal

abbrev pub invariant-loop-row : goal.invariant-loop-row
invariant-loop-row l = All IsBytePackage (take l.row-index l.packages)
