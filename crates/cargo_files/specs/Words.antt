-- What the words of `--features` say.
use Rattle.std.specs.Prelude.{ℕ, ◌==◌, Bool, if◌then◌else◌}
use Rattle.std.specs.List.{list_any, before_first, after_first}
use Rattle.workspace_record.specs.Records.{Text}

pub data WordValue : Type 0 where
  -- `NAME`: this feature of each member that has it
  OfEach : Text → WordValue
  -- `PACKAGE/NAME`: this feature of the member of this name
  OfMember : Text → Text → WordValue

-- the byte of `/`
abbrev pub is_slash : ℕ → Bool
is_slash byte = byte == 47

-- what stands before the first slash names the member (from Cargo's reference, "Features")
abbrev pub word_value : Text → WordValue
word_value word =
    if list_any is_slash word then OfMember (before_first is_slash word) (after_first is_slash word) else OfEach word
