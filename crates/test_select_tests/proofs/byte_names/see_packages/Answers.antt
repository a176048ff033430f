use Rattle.std.proofs.Common.{All, arith, subst, take_all}
use Rattle.test_select_tests.specs.Questions.{IsBytePackage}
use Rattle.test_select_tests.proofs.ByteFacts.{seen_more}
use Rattle.test_select_tests.proofs.byte_names.see_packages.Goals as goal

pub loop-row-preserved : goal.loop-row-preserved
loop-row-preserved c = seen_more IsBytePackage c.args.packages.now c.loop-row.row-index c.row-item.result (omega arith) c.row-item.is c.loop-row.invariant c.see_package.ensures

pub returns : goal.returns
returns c = subst (All IsBytePackage) (take_all c.loop-row.row-index c.args.packages.now (omega arith)) c.loop-row.invariant
