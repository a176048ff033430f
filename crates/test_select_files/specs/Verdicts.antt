-- What is said of the file of an account, and the line that says it.
use Rattle.std.specs.Prelude.{◌≡◌, ◌≢◌, ◌++◌, List, Option, Some, None, Result, Ok, Err, codes}
use Rattle.std.specs.Io.KnownBytes.{Appends}
use Rattle.clap.specs.Words.{Row}
use Rattle.list_facts.specs.Writers.{AddsUpTo}
use Rattle.workspace_record.specs.Records.{Text}
use Rattle.workspace_record.specs.Features.{FeatureValue}
use Rattle.feature_account.specs.Accounts.{IsVerdict}
use Rattle.feature_account.specs.Explanations.{IsExplanationVerdict}
use Rattle.feature_account_rules.specs.RuleList.{rule_list}
use Rattle.feature_account.specs.VerdictTexts.{verdict_text}
use Rattle.feature_account_rules.specs.declared.rule.Rule.{Rule}
use Rattle.feature_account.specs.declared.verdict.Verdict.{Verdict}
use Rattle.feature_account.specs.declared.verdict.Verdict.TheVariants.{Accepted}
use Rattle.record_files.specs.Accounts.{AccountValue}
use Rattle.test_select_files.specs.Reading.{Asked, EndsAfter, ReadsCheck}
use Rattle.test_select_files.specs.declared.inputs.FeatureQuestion.{FeatureQuestion}
use Rattle.test_select_files.specs.declared.run_failure.RunFailure.{RunFailure}
use Rattle.test_select_files.specs.declared.run_failure.RunFailure.TheVariants.{CommandLine, CannotRead, BadFile, Denied, CannotWrite, Memory}

-- without a goal the numbers are an account, and with one an explanation of it
abbrev pub IsVerdictFor : List Rule → AccountValue → Option FeatureValue → Verdict → Type 0
IsVerdictFor rules account None verdict = IsVerdict rules account.numbers verdict
IsVerdictFor rules account (Some goal) verdict = IsExplanationVerdict rules goal account.numbers verdict

-- what is to be said of the file, by the record, the choice and the table that were read
abbrev pub IsVerdictOn : FeatureQuestion → AccountValue → Verdict → Type 0
IsVerdictOn q account = IsVerdictFor (rule_list q.record.value q.choice q.table) account account.goal

-- the line that says it
abbrev pub verdict_line : Verdict → Text
verdict_line verdict = verdict_text verdict ++ codes "\n"

-- How a check ends: its verdict's line is printed, and an account that is refused is denied; or the output takes no more, and some beginning of the line is printed; or memory ran out before anything was.
abbrev pub PrintsVerdict : FeatureQuestion → AccountValue → Result (Unit {0}) RunFailure → Option Text → Option Text → Type 0
PrintsVerdict q account (Ok x) old new = IsVerdictOn q account Accepted × Appends old new (verdict_line Accepted)
PrintsVerdict q account (Err Denied) old new =
    (verdict : Verdict) × (verdict ≢ Accepted) × IsVerdictOn q account verdict × Appends old new (verdict_line verdict)
PrintsVerdict q account (Err CannotWrite) old new =
    (verdict : Verdict) × IsVerdictOn q account verdict × ((rest : Text) × AddsUpTo old new (verdict_line verdict) rest)
PrintsVerdict q account (Err Memory) old new = new ≡ old
PrintsVerdict q account (Err (CommandLine error)) old new = ⊥
PrintsVerdict q account (Err (CannotRead name)) old new = ⊥
PrintsVerdict q account (Err (BadFile name error)) old new = ⊥

-- how a check of the files that the words name ends: after a file that fails nothing is printed
abbrev pub EndsCheck : List Row → Result (Unit {0}) RunFailure → Option Text → Option Text → Asked → Type 0
EndsCheck words result old new =
    EndsAfter (ReadsCheck words) (λ files. PrintsVerdict files.0 files.1 result old new) (λ failure. (result ≡ Err failure) × (new ≡ old))
