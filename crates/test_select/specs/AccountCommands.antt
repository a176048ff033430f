-- What the commands print that answer why: the account of what is on, and the explanation of a feature.
use Rattle.std.specs.Prelude.{◌≡◌, ℕ, Bool, true, false, List, Option, Some, None, Result, Ok, Vec, codes}
use Rattle.std.specs.Global.{Global}
use Rattle.clap.specs.Words.{Row}
use Rattle.workspace_record.specs.Features.{FeatureValue}
use Rattle.workspace_record.specs.Records.{Text}
use Rattle.record_files.specs.Choices.{label_of}
use Rattle.feature_account_making.specs.AccountText.{account_text}
use Rattle.feature_account_making.specs.ReadBackLaws.{AreSizes}
use Rattle.feature_account_making.specs.ExplanationText.{explanation_text}
use Rattle.feature_account_making.specs.RuleLines.{entry_lines}
use Rattle.feature_account_making.specs.Sources.{sourced_rules}
use Rattle.test_select_checks.specs.declared.select_error.SelectError.{SelectError}
use Rattle.test_select_features.specs.Explaining.{Explains}
use Rattle.test_select_features.specs.Switching.{Accounts}
use Rattle.test_select_files.specs.Reading.{Asked, ReadsQuestion}
use Rattle.test_select_files.specs.Words.{files_named, is_given, word_or_empty}
use Rattle.test_select_files.specs.declared.inputs.FeatureQuestion.{FeatureQuestion}
use Rattle.test_select.specs.Printing.{EndsReading, Prints, never}
use Rattle.test_select.specs.declared.failure.Failure.{Failure}

-- a line for each of the entries: its rule, and what the rule comes from
abbrev pub lines_of : FeatureQuestion → List ℕ → Text
lines_of q entries = entry_lines (sourced_rules q.record.value q.choice q.table) entries

-- an account as it is printed: lines for people, or a line of JSON
abbrev pub account_shown : FeatureQuestion → Bool → List ℕ → Text
account_shown q true entries = lines_of q entries
account_shown q false entries = account_text entries

-- the text is that of an account of these numbers, each of which a `usize` holds
pub record IsAccountText (q : FeatureQuestion) (readable : Bool) (entries : List ℕ) (text : Text) : Type 0 where
  pub shown : text ≡ account_shown q readable entries
  pub sizes : AreSizes entries

-- an explanation of the feature as it is printed
abbrev pub explanation_shown : FeatureQuestion → Bool → FeatureValue → List ℕ → Text
explanation_shown q true goal entries = lines_of q entries
explanation_shown q false goal entries = explanation_text goal entries

-- what is printed where the feature is not on
abbrev pub not_on : Text
not_on = codes "not on\n"

-- the explanation as it is printed, or that the feature is not on
abbrev pub explained_text : FeatureQuestion → Bool → FeatureValue → Option (Vec ℕ Global) → Text
explained_text q readable goal (Some entries) = explanation_shown q readable goal entries.items
explained_text q readable goal None = not_on

-- that a feature is not on is a no
abbrev pub is_not_on : Option (Vec ℕ Global) → Bool
is_not_on (Some entries) = false
is_not_on None = true

-- the feature that the words name, as a choice names it
abbrev pub feature_named : List Row → FeatureValue
feature_named words = record {
  package_id = word_or_empty (codes "package") words;
  label = label_of (word_or_empty (codes "feature") words);
}

-- a text is printed; or memory ran out before anything was; or the output takes no more, and some beginning of the text is
abbrev pub PrintsText : Text → Result (Unit {0}) Failure → Option Text → Option Text → Type 0
PrintsText shown =
    Prints (λ (given : Result (Unit {0}) SelectError). given ≡ Ok (tt {0})) (λ (nothing : Unit {0}) (text : Text). text ≡ shown) never

-- the account of what is on is printed, for people or not, or how this fails
abbrev pub PrintsAccount : Bool → FeatureQuestion → Result (Unit {0}) Failure → Option Text → Option Text → Type 0
PrintsAccount readable q =
    Prints (Accounts q.record.value q.choice q.table) (λ account. IsAccountText q readable account.rules.items) never

-- the explanation of the feature is printed, for people or not, or that it is not on, or how this fails
abbrev pub PrintsExplanation : Bool → FeatureValue → FeatureQuestion → Result (Unit {0}) Failure → Option Text → Option Text → Type 0
PrintsExplanation readable goal q =
    Prints (Explains q.record.value q.choice q.table goal) (λ answer text. text ≡ explained_text q readable goal answer) is_not_on

-- how `account` ends, by the files that the words name
abbrev pub EndsAccount : List Row → Result (Unit {0}) Failure → Option Text → Option Text → Asked → Type 0
EndsAccount words = EndsReading (ReadsQuestion (files_named words)) (PrintsAccount (is_given (codes "readable") words))

-- how `explain` ends
abbrev pub EndsExplanation : List Row → Result (Unit {0}) Failure → Option Text → Option Text → Asked → Type 0
EndsExplanation words =
    EndsReading (ReadsQuestion (files_named words)) (PrintsExplanation (is_given (codes "readable") words) (feature_named words))
