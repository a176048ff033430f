-- Reasons as text.
use Rattle.std.specs.Prelude.{◌++◌, codes, decimal}
use Rattle.workspace_record.specs.Records.{Text}
use Rattle.test_select_tests.specs.declared.reason.Reason.{Reason}
use Rattle.test_select_tests.specs.declared.reason.Reason.TheVariants.{NoBinary, Off, Test, Binary}
use Rattle.test_select_tests.specs.declared.reason.TestReason.{TestReason}
use Rattle.test_select_tests.specs.declared.reason.TestReason.TheVariants.{NotListed, DefaultFilter, NoFilter, Chosen, ChosenBy}
use Rattle.test_select_tests.specs.declared.reason.BinaryReason.{BinaryReason}
use Rattle.test_select_tests.specs.declared.reason.BinaryReason.TheVariants as binary

-- why a test is chosen or not
abbrev pub test_text : TestReason → Text
test_text NotListed = codes "not listed"
test_text DefaultFilter = codes "default filter does not hold"
test_text NoFilter = codes "no filter holds"
test_text Chosen = codes "chosen"
test_text (ChosenBy place) = codes "chosen by filter " ++ decimal place

-- why a binary is asked or not
abbrev pub binary_text : BinaryReason → Text
binary_text binary.DefaultFilter = codes "default filter cannot hold"
binary_text binary.NoFilter = codes "no filter can hold"
binary_text binary.Asked = codes "asked"

-- what a reason prints
abbrev pub reason_text : Reason → Text
reason_text (NoBinary id) = codes "no binary " ++ id.now
reason_text (Off owner feature) = codes "off: needs " ++ (owner.now ++ (codes "/" ++ feature.now))
reason_text (Test why) = test_text why
reason_text (Binary why) = binary_text why
