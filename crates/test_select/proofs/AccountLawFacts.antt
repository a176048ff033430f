-- What a run of `account` prints is accepted by `check`.
use Rattle.std.proofs.Common.{◌≡◌, ◌∙◌, ℕ, inl, inr, List, [], ◌∷◌, ◌++◌, Option, None, Result, Ok, Err, codes, refl, sym, ap, subst, ⊎_elim}
use Rattle.clap.specs.Words.{Row}
use Rattle.list_facts.specs.Writers.{AddsUpTo}
use Rattle.workspace_record.specs.Records.{Text}
use Rattle.feature_account.specs.Accounts.{IsValidAccount}
use Rattle.feature_account_rules.specs.RuleList.{rule_list}
use Rattle.record_files.specs.Accounts.{AccountValue, account_file}
use Rattle.record_files.specs.Files.{Reads}
use Rattle.test_select_files.specs.Reading.{Asked, FileFailsAfter, IsQuestionRead, IsReadAs}
use Rattle.test_select_files.specs.Verdicts.{EndsCheck, PrintsVerdict, verdict_line}
use Rattle.test_select_files.specs.Words.{FileNames, files_named, word_or_empty}
use Rattle.test_select_files.specs.declared.inputs.FeatureQuestion.{FeatureQuestion}
use Rattle.test_select_files.specs.declared.run_failure.RunFailure.{RunFailure}
use Rattle.test_select_files.specs.declared.run_failure.RunFailure.TheVariants.{CommandLine, CannotRead, BadFile, Denied, CannotWrite, Memory}
use Rattle.test_select_laws.proofs.LookupFacts.{alike_by_entries}
use Rattle.test_select_laws.proofs.TableFacts.{rules_alike}
use Rattle.test_select.specs.AccountCommands.{account_shown}
use Rattle.test_select.specs.RunLaws.{HasAccepted, PrintedAccountsAreAccepted}
use Rattle.test_select.proofs.AccountLineFacts.{account_read}
use Rattle.test_select.proofs.AcceptedFacts.{accepted_alone}
use Rattle.test_select.proofs.OnceFacts.{IsOneQuestion, fails_for_memory, question_fails_for_memory, question_once, read_first}

-- the file that holds the text is read as these numbers
abbrev account_of : List ℕ → AccountValue
account_of numbers = record { numbers = numbers; goal = None }

-- where the account is valid, nothing but its acceptance is said
says_accepted : (q : FeatureQuestion) (numbers : List ℕ) (result : Result (Unit {0}) RunFailure) (old new : Option Text) → IsValidAccount (rule_list q.record.value q.choice q.table) numbers → PrintsVerdict q (account_of numbers) result old new → HasAccepted result old new
says_accepted q numbers (Ok x) old new valid h = h.1
says_accepted q numbers (Err Denied) old new valid h =
    absurd (h.1 (accepted_alone (rule_list q.record.value q.choice q.table) numbers valid h.0 h.2))
says_accepted q numbers (Err CannotWrite) old new valid h =
    let accepted = accepted_alone (rule_list q.record.value q.choice q.table) numbers valid h.0 h.1 in
    subst (λ verdict. (rest : Text) × AddsUpTo old new (verdict_line verdict) rest) accepted h.2
says_accepted q numbers (Err Memory) old new valid h = h
says_accepted q numbers (Err (CommandLine e)) old new valid h = absurd h
says_accepted q numbers (Err (CannotRead name)) old new valid h = absurd h
says_accepted q numbers (Err (BadFile name e)) old new valid h = absurd h

-- a run that ends for want of memory has printed nothing
ends_for_memory : (result : Result (Unit {0}) RunFailure) (failure : RunFailure) (old new : Option Text) → result ≡ Err failure → failure ≡ Memory → new ≡ old → HasAccepted result old new
ends_for_memory result failure old new is memory same = subst (λ r. HasAccepted r old new) (sym (is ∙ ap Err memory)) same

-- questions that were read alike have the same rules
rules_read : (q p : FeatureQuestion) → IsOneQuestion q p → rule_list q.record.value q.choice q.table ≡ rule_list p.record.value p.choice p.table
rules_read q p one =
    let alike = alike_by_entries q.table p.table (ap (λ t. t.answers) one.table) (ap (λ t. t.unknown_counts) one.table) in
    rules_alike q.table p.table alike q.record.value q.choice ∙ (λ i. rule_list (one.workspace i) (one.choice i) p.table)

module _ (checking : List Row) (q : FeatureQuestion) (asked : Asked) (numbers : List ℕ) (text : Text) (question : IsQuestionRead (files_named checking) q asked) (reads : Reads account_file text (Ok (account_of numbers))) where
  abbrev name : Text
  name = word_or_empty (codes "account") checking

  abbrev printed : Asked
  printed = (name, Ok text) ∷ []

  -- the file is read
  printed_is_read : IsReadAs account_file name (Ok (account_of numbers)) printed
  printed_is_read = record { bytes = text; only = refl; reading = reads }

  account_fails : (failure : RunFailure) → FileFailsAfter (λ (a : AccountValue). a) account_file (codes "account") checking failure (asked ++ printed) → failure ≡ Memory
  account_fails failure h =
      let questions = question_once (files_named checking) q asked printed question h.question h.for_question h.for_file h.question_read h.in_order in
      fails_for_memory account_file name (account_of numbers) printed h.for_file [] [] printed_is_read failure h.fails (ap (λ (l : Asked). l ++ []) questions.1)

  pub checks_accepted : IsValidAccount (rule_list q.record.value q.choice q.table) numbers → (result : Result (Unit {0}) RunFailure) (old new : Option Text) → EndsCheck checking result old new (asked ++ printed) → HasAccepted result old new
  checks_accepted valid result old new (inl run) =
      let read = run.read in
      let questions = question_once (files_named checking) q asked printed question run.value.0 read.for_question read.for_file read.question_read read.in_order in
      let accounts = read_first account_file name (account_of numbers) printed read.for_file [] [] printed_is_read run.value.1 read.file_read (ap (λ (l : Asked). l ++ []) questions.1) in
      let same = rules_read q run.value.0 questions.0 in
      says_accepted run.value.0 numbers result old new (subst (λ rules. IsValidAccount rules numbers) same valid) (subst (λ a. PrintsVerdict run.value.0 a result old new) (sym accounts.0) run.ends)
  checks_accepted valid result old new (inr stopped) =
      let memory = ⊎_elim (question_fails_for_memory (files_named checking) q asked printed question stopped.failure) (account_fails stopped.failure) stopped.fails in
      ends_for_memory result stopped.failure old new stopped.stops.0 memory stopped.stops.1

pub printed_accounts_are_accepted : PrintedAccountsAreAccepted
printed_accounts_are_accepted words checking asked old new plain (inl run) =
    let q = run.value in
    let numbers = run.ends.answer.rules.items in
    let form = run.ends.is_text.shown ∙ ap (λ readable. account_shown q readable numbers) plain in
    let reads : Reads account_file run.ends.text (Ok (account_of numbers)) = subst (λ t. Reads account_file t (Ok (account_of numbers))) (sym form) (account_read numbers run.ends.is_text.sizes) in (
      run.ends.text,
      run.ends.holds,
      λ result before after same ends.
          checks_accepted checking q asked numbers run.ends.text (subst (λ (n : FileNames). IsQuestionRead n q asked) same run.read) reads run.ends.given.lowest.valid result before after ends,
    )
printed_accounts_are_accepted words checking asked old new plain (inr stopped) = absurd (cc stopped.stops.0)
