-- The laws of what is written: it can be read back.
use Rattle.std.specs.Prelude.{◌≡◌, ℕ, ◌<◌, ◌^◌, ◌⊎◌, List, ◌++◌, Some, None, Result, Ok, Err, All, IsUtf8, codes}
use Rattle.workspace_record.specs.Records.{Text}
use Rattle.workspace_record.specs.Features.{FeatureValue, label_name}
use Rattle.record_files.specs.Accounts.{AccountValue, account_file}
use Rattle.record_files.specs.Choices.{label_of}
use Rattle.record_files.specs.Files.{Reads, ReadsFile}
use Rattle.record_files.specs.declared.error.ReadError.{ReadError}
use Rattle.record_files.specs.declared.error.ReadError.TheVariants.{Memory}
use Rattle.feature_account_making.specs.AccountText.{account_text}
use Rattle.feature_account_making.specs.ExplanationText.{explanation_text, label_text}

-- the line is a file of this value, and whoever reads it answers the value or lacks memory
pub record ReadsBackAs (line : Text) (value : AccountValue) : Type 0 where
  pub reads : Reads account_file line (Ok value)
  pub no_other : (answer : Result AccountValue ReadError) → ReadsFile (λ f. f) account_file line answer
      → (answer ≡ Ok value) ⊎ (answer ≡ Err Memory)

-- each number is one that a `usize` holds
abbrev pub AreSizes : List ℕ → Type 0
AreSizes = All (λ n. n < 2 ^ 64)

-- both texts are UTF-8, as each `String` is, and a choice can name the label
pub record CanBeNamed (feature : FeatureValue) : Type 0 where
  pub package_is_utf8 : IsUtf8 feature.package_id
  pub label_is_utf8 : IsUtf8 (label_name feature.label)
  pub label_is_named : label_of (label_text feature.label) ≡ feature.label

-- what is written of an account, without the line feed, is read as its numbers and no goal
abbrev pub AccountsReadBack : Type 0
AccountsReadBack =
    (numbers : List ℕ) (line : Text) → AreSizes numbers → account_text numbers ≡ line ++ codes "\n"
    → ReadsBackAs line (record { numbers = numbers; goal = None })

-- what is written of an explanation, without the line feed, is read as its numbers and its goal
abbrev pub ExplanationsReadBack : Type 0
ExplanationsReadBack =
    (goal : FeatureValue) (entries : List ℕ) (line : Text) → CanBeNamed goal → AreSizes entries
    → explanation_text goal entries ≡ line ++ codes "\n"
    → ReadsBackAs line (record { numbers = entries; goal = Some goal })
