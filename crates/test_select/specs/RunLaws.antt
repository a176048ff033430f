-- What two runs of the program have in common.
use Rattle.std.specs.Prelude.{◌≡◌, ◌≢◌, false, List, [], ◌∷◌, ◌++◌, Option, Result, Ok, Err, codes}
use Rattle.std.specs.Io.KnownBytes.{Appends}
use Rattle.clap.specs.Words.{Row, all_of, first_of}
use Rattle.list_facts.specs.Writers.{AddsUpTo}
use Rattle.workspace_record.specs.Records.{Text}
use Rattle.feature_account.specs.declared.verdict.Verdict.TheVariants.{Accepted}
use Rattle.test_select_files.specs.Reading.{Asked}
use Rattle.test_select_files.specs.Verdicts.{EndsCheck, verdict_line}
use Rattle.test_select_files.specs.Words.{files_named, is_given, word_or_empty}
use Rattle.test_select_files.specs.declared.run_failure.RunFailure.{RunFailure}
use Rattle.test_select_files.specs.declared.run_failure.RunFailure.TheVariants.{CommandLine, CannotRead, BadFile, Denied, CannotWrite, Memory}
use Rattle.test_select.specs.AccountCommands.{EndsAccount}
use Rattle.test_select.specs.Selections.{EndsTests}

-- the words give each value alike, but for the flag `plain`
abbrev pub DifferInPlain : List Row → List Row → Type 0
DifferInPlain one other =
    (name : Text) → name ≢ codes "plain" → (first_of name one ≡ first_of name other) × (all_of name one ≡ all_of name other)

-- two runs of `tests`, one with `--plain` and one without, that were answered the same by their files and ended well, have printed the same bytes
abbrev pub PlainPrintsTheSame : Type 0
PlainPrintsTheSame =
    (one other : List Row) (asked : Asked) (old new before after : Option Text)
    → DifferInPlain one other
    → EndsTests one (Ok tt) old new asked
    → EndsTests other (Ok tt) before after asked
    → (text : Text) × Appends old new text × Appends before after text

-- the check has accepted; or the output takes no more, and a beginning of `accepted` is printed; or memory ran out
abbrev pub HasAccepted : Result (Unit {0}) RunFailure → Option Text → Option Text → Type 0
HasAccepted (Ok x) old new = Appends old new (verdict_line Accepted)
HasAccepted (Err CannotWrite) old new = (rest : Text) × AddsUpTo old new (verdict_line Accepted) rest
HasAccepted (Err Memory) old new = new ≡ old
HasAccepted (Err Denied) old new = ⊥
HasAccepted (Err (CommandLine error)) old new = ⊥
HasAccepted (Err (CannotRead name)) old new = ⊥
HasAccepted (Err (BadFile name error)) old new = ⊥

-- a check of what a run of `account` printed, by words that name the same other files, which were answered the same
abbrev pub ChecksAccepted : List Row → List Row → Asked → Text → Type 0
ChecksAccepted words checking asked text =
    (result : Result (Unit {0}) RunFailure) (old new : Option Text)
    → files_named words ≡ files_named checking
    → EndsCheck checking result old new (asked ++ (word_or_empty (codes "account") checking, Ok text) ∷ [])
    → HasAccepted result old new

-- what a run of `account` prints that ends well is an account that `check` accepts
abbrev pub PrintedAccountsAreAccepted : Type 0
PrintedAccountsAreAccepted =
    (words checking : List Row) (asked : Asked) (old new : Option Text)
    → is_given (codes "readable") words ≡ false
    → EndsAccount words (Ok tt) old new asked
    → (text : Text) × Appends old new text × ChecksAccepted words checking asked text
