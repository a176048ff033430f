-- Reasons say what a selection does.
use Rattle.std.specs.Prelude.{◌≡◌, ◌↔◌, IsTrue, List, Option, Some}
use Rattle.workspace_record.specs.Records.{Text}
use Rattle.test_select_rules.specs.Binaries.{Binary}
use Rattle.test_select_tests.specs.Questions.{Question}
use Rattle.test_select_tests.specs.Readings.{Readings}
use Rattle.test_select_tests.specs.Selecting.{IsAnswered, IsAvailableBinary, IsChosen, IsLetThrough}
use Rattle.test_select_tests.specs.Explaining.{IsReasonOfBinaryIn, IsReasonOfTestIn}
use Rattle.test_select_tests.specs.Reasons.{is_asked, is_chosen}
use Rattle.test_select_tests.specs.declared.reason.TestReason.{TestReason}
use Rattle.test_select_tests.specs.declared.reason.BinaryReason.{BinaryReason}

-- of an available binary of a question that is answered, the reason of a test is that of a chosen one exactly where it is chosen, and the reason of the binary that of an asked one exactly where it is let through
pub record SayWhatIsSelected (q : Question) (r : Readings) (b : Binary) : Type 0 where
  pub tests : (listing_of : Text → Option (List Text)) (names : List Text) (name : Text) → listing_of b.id ≡ Some names → (why : TestReason) → IsReasonOfTestIn q r b names name why → IsTrue (is_chosen why) ↔ IsChosen q r listing_of (b.id, name)
  pub itself : (why : BinaryReason) → IsReasonOfBinaryIn q r b why → IsTrue (is_asked why) ↔ IsLetThrough q r b

-- reasons say what a selection chooses and asks
abbrev pub ReasonsSayWhatIsSelected : Type 0
ReasonsSayWhatIsSelected =
    (q : Question) (r : Readings) (b : Binary) → IsAnswered q r → IsAvailableBinary q b → SayWhatIsSelected q r b
