-- What a check prints, where the output is known.
use Rattle.std.proofs.Common.{◌≡◌, ◌≢◌, ℕ, List, refl, ap, sym, subst, Result, Ok, Err}
use Rattle.std.specs.Prelude.{Option, IsErrAnd}
use Rattle.std.specs.Io.KnownBytes.{Appends}
use Rattle.list_facts.specs.Writers.{AddsUpTo}
use Rattle.workspace_record.specs.Records.{Text}
use Rattle.feature_account.specs.declared.verdict.Verdict.{Verdict}
use Rattle.feature_account.specs.declared.verdict.Verdict.TheVariants.{Accepted}
use Rattle.clap.specs.Words.{Row}
use Rattle.record_files.specs.Accounts.{AccountValue}
use Rattle.test_select_files.specs.Files.{Answer}
use Rattle.test_select_files.specs.Reading.{Asks, ReadsCheck}
use Rattle.test_select_files.specs.Verdicts.{EndsCheck, IsVerdictOn, PrintsVerdict, verdict_line}
use Rattle.test_select_files.specs.declared.inputs.FeatureQuestion.{FeatureQuestion}
use Rattle.test_select_files.proofs.ReadingFacts.{ends_by, ends_on}
use Rattle.test_select_files.specs.declared.run_failure.RunFailure.{RunFailure}
use Rattle.test_select_files.specs.declared.run_failure.RunFailure.TheVariants.{CannotWrite, Denied}

module _ (q : FeatureQuestion) (account : AccountValue) (verdict : Verdict) (on : IsVerdictOn q account verdict) (text : Text) (said : text ≡ verdict_line verdict) (old new : Option Text) where
  -- the output takes no more
  pub verdict_begun : (result : Result (Unit {0}) RunFailure) → IsErrAnd result (λ y. y ≡ CannotWrite) → (rest : Text) × AddsUpTo old new text rest → PrintsVerdict q account result old new
  verdict_begun (Ok x) is begun = absurd is
  verdict_begun (Err y) is begun =
      subst (λ (f : RunFailure). PrintsVerdict q account (Err f) old new) (sym is)
      (verdict, on, subst (λ (l : Text). (rest : Text) × AddsUpTo old new l rest) said begun)

  -- an account that is accepted
  pub verdict_accepts : verdict ≡ Accepted → Appends old new text → PrintsVerdict q account (Ok tt) old new
  verdict_accepts is written = subst (λ (v : Verdict). IsVerdictOn q account v × Appends old new (verdict_line v)) is (on, subst (λ (l : Text). Appends old new l) said written)

  -- one that is refused
  pub verdict_denies : verdict ≢ Accepted → Appends old new text → PrintsVerdict q account (Err Denied) old new
  verdict_denies other written = (verdict, other, on, subst (λ (l : Text). Appends old new l) said written)

module _ {R : List ℕ → Text → Answer → List ℕ → Type 0} {s t : List ℕ} (words : List Row) where
  -- a check of files that were read
  pub check_ends : (q : FeatureQuestion) (account : AccountValue) (result : Result (Unit {0}) RunFailure) (old new : Option Text) → Asks R s t (ReadsCheck words (Ok (q, account))) → PrintsVerdict q account result old new → Asks R s t (EndsCheck words result old new)
  check_ends q account result old new asks ends =
      ends_on (ReadsCheck words) (λ files. PrintsVerdict files.0 files.1 result old new) (λ failure. (result ≡ Err failure) × (new ≡ old)) (q, account) asks ends

  -- a check of files of which one fails
  pub check_stops : (f : RunFailure) (result : Result (Unit {0}) RunFailure) (old : Option Text) → IsErrAnd result (λ y. y ≡ f) → Asks R s t (ReadsCheck words (Err f)) → Asks R s t (EndsCheck words result old old)
  check_stops f (Ok x) old is asks = absurd is
  check_stops f (Err y) old is asks =
      ends_by (ReadsCheck words) (λ files. PrintsVerdict files.0 files.1 (Err y) old old) (λ failure. (Err y ≡ Err failure) × (old ≡ old)) f asks (ap (λ (x : RunFailure). Err x) is, refl)
