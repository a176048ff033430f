-- What files answered has one reading.
use Rattle.std.proofs.Common.{◌≡◌, ◌++◌, ◌∙◌, ℕ, inl, inr, List, [], ◌∷◌, Option, Some, None, Result, Ok, Err, map, refl, sym, ap, subst, append_assoc, append-nil}
use Rattle.serde_json.specs.Data.{Data}
use Rattle.workspace_record.specs.Choices.{Choice}
use Rattle.workspace_record.specs.Records.{Text}
use Rattle.workspace_record.specs.Tables.{entry_of}
use Rattle.workspace_record.specs.declared.choice.PlatformTable.{PlatformTable}
use Rattle.record_files.specs.Choices.{choice_file}
use Rattle.record_files.specs.Faults.{Fault, fault_of}
use Rattle.record_files.specs.Files.{Reads}
use Rattle.record_files.specs.Records.{record_file}
use Rattle.record_files.specs.Tables.{table_file, table_view}
use Rattle.record_files.specs.declared.error.ReadError.{ReadError}
use Rattle.record_files.specs.declared.error.ReadError.TheVariants as error
use Rattle.test_select_files.specs.Files.{Answer}
use Rattle.test_select_files.specs.Reading.{Asked, ChoiceFails, FileFails, IsQuestionRead, IsReadAs, ReadsChoice, ReadsIfNamed, ReadsQuestion, ReadsTable, Refuses, TableFails}
use Rattle.test_select_files.specs.Words.{FileNames}
use Rattle.test_select_files.specs.declared.file_source.FileFault.TheVariants as fault
use Rattle.test_select_files.specs.declared.inputs.FeatureQuestion.{FeatureQuestion}
use Rattle.test_select_files.specs.declared.run_failure.RunFailure.{RunFailure}
use Rattle.test_select_files.specs.declared.run_failure.RunFailure.TheVariants.{CommandLine, CannotRead, BadFile, Denied, CannotWrite, Memory}

-- ---- one file

-- bytes have one reading
pub reads_once : {Y : Type 0} (format : Data → Result Y Fault) (bytes : List ℕ) (r s : Result Y Fault) → Reads format bytes r → Reads format bytes s → r ≡ s
reads_once format bytes r s one other =
    let value : one.value ≡ other.value = cc (one.reading, other.reading) in
    sym one.shape ∙ ap format value ∙ other.shape

module _ {Y : Type 0} (format : Data → Result Y Fault) (name : Text) (x : Y) (a b rest more : Asked) (one : IsReadAs format name (Ok x) a) where
  -- the first file of a list was read, and the list goes on
  first_is : a ++ rest ≡ b ++ more → (name, Ok one.bytes) ∷ rest ≡ b ++ more
  first_is same = ap (λ (l : Asked). l ++ rest) (sym one.only) ∙ same

  -- another reading of that file is the same, and the lists go on alike
  pub read_first : (y : Y) → IsReadAs format name (Ok y) b → a ++ rest ≡ b ++ more → (x ≡ y) × (rest ≡ more)
  read_first y other same =
      let lists : (name, Ok one.bytes) ∷ rest ≡ (name, Ok other.bytes) ∷ more = first_is same ∙ ap (λ (l : Asked). l ++ more) other.only in
      let pair : ◌≡◌ {A = Text × Answer} (name, Ok one.bytes) (name, Ok other.bytes) = cc lists in
      let bytes : one.bytes ≡ other.bytes = cc (ap (λ (p : Text × Answer). p.1) pair) in
      let said : Ok x ≡ Ok y = reads_once format other.bytes (Ok x) (Ok y) (subst (λ t. Reads format t (Ok x)) bytes one.reading) other.reading in
      (cc said, cc lists)

  -- bytes that were read are not refused
  not_refused : (e : ReadError) → Refuses format one.bytes e → ⊥
  not_refused error.BadJson refused = let none = refused one.reading.text in absurd (cc (none, one.reading.reading))
  not_refused (error.BadShape field) refused = absurd (cc (reads_once format one.bytes (Ok x) (Err (fault_of field)) one.reading refused))
  not_refused error.Memory refused = refused

  -- if it fails all the same, memory ran out
  pub fails_for_memory : (f : RunFailure) → FileFails format name f b → a ++ rest ≡ b ++ more → f ≡ Memory
  fails_for_memory (CannotRead at) fails same =
      let lists : (name, Ok one.bytes) ∷ rest ≡ (name, Err fault.CannotRead) ∷ more = first_is same ∙ ap (λ (l : Asked). l ++ more) fails.1 in
      let pair : ◌≡◌ {A = Text × Answer} (name, Ok one.bytes) (name, Err fault.CannotRead) = cc lists in
      absurd (cc (ap (λ (p : Text × Answer). p.1) pair))
  fails_for_memory (BadFile at e) fails same =
      let lists : (name, Ok one.bytes) ∷ rest ≡ (name, Ok fails.1.bytes) ∷ more = first_is same ∙ ap (λ (l : Asked). l ++ more) fails.1.only in
      let pair : ◌≡◌ {A = Text × Answer} (name, Ok one.bytes) (name, Ok fails.1.bytes) = cc lists in
      let bytes : fails.1.bytes ≡ one.bytes = cc (ap (λ (p : Text × Answer). p.1) pair) in
      absurd (not_refused e (subst (λ t. Refuses format t e) bytes fails.1.refused))
  fails_for_memory Memory fails same = refl
  fails_for_memory (CommandLine e) fails same = absurd fails
  fails_for_memory Denied fails same = absurd fails
  fails_for_memory CannotWrite fails same = absurd fails

-- ---- a file that may be named

module _ {X Y : Type 0} (shows : X → Y) (format : Data → Result Y Fault) (absent : X → Type 0) (x : X) (a b rest more : Asked) where
  pub if_named_fails_for_memory : (name : Option Text) → ReadsIfNamed shows format absent name (Ok x) a → (f : RunFailure) → ReadsIfNamed shows format absent name (Err f) b → a ++ rest ≡ b ++ more → f ≡ Memory
  if_named_fails_for_memory (Some name) one f fails same = fails_for_memory format name (shows x) a b rest more one f fails same
  if_named_fails_for_memory None one f fails same = absurd fails

  -- where none is named, the lists go on alike
  none_named : (y : X) → ReadsIfNamed shows format absent None (Ok x) a → ReadsIfNamed shows format absent None (Ok y) b → a ++ rest ≡ b ++ more → rest ≡ more
  none_named y one other same = ap (λ (l : Asked). l ++ rest) (sym one.1) ∙ same ∙ ap (λ (l : Asked). l ++ more) other.1

-- a choice has one reading
choice_once : (name : Option Text) (c d : Choice) (a b rest more : Asked) → ReadsChoice name (Ok c) a → ReadsChoice name (Ok d) b → a ++ rest ≡ b ++ more → (c ≡ d) × (rest ≡ more)
choice_once (Some name) c d a b rest more one other same = read_first choice_file name c a b rest more one d other same
choice_once None c d a b rest more one other same =
    (one.0 ∙ sym other.0, ap (λ (l : Asked). l ++ rest) (sym one.1) ∙ same ∙ ap (λ (l : Asked). l ++ more) other.1)

-- a table has one reading, up to where its texts lie in memory
table_once : (name : Option Text) (t u : PlatformTable) (a b rest more : Asked) → ReadsTable name (Ok t) a → ReadsTable name (Ok u) b → a ++ rest ≡ b ++ more → (table_view t ≡ table_view u) × (rest ≡ more)
table_once (Some name) t u a b rest more one other same = read_first table_file name (table_view t) a b rest more one (table_view u) other same
table_once None t u a b rest more one other same =
    let entries : t.answers.entries ≡ u.answers.entries = one.0.answers ∙ sym other.0.answers in
    let unknown : t.unknown_counts ≡ u.unknown_counts = one.0.unknown_counts ∙ sym other.0.unknown_counts in
    (λ i. record { answers = map entry_of (entries i); unknown_counts = unknown i }, ap (λ (l : Asked). l ++ rest) (sym one.1) ∙ same ∙ ap (λ (l : Asked). l ++ more) other.1)

-- ---- a question

-- two questions that were read are the same, up to where the texts of tables lie in memory
pub record IsOneQuestion (q p : FeatureQuestion) : Type 0 where
  pub workspace : q.record.value ≡ p.record.value
  pub choice : q.choice ≡ p.choice
  pub table : table_view q.table ≡ table_view p.table

regroup : (r c t rest : Asked) → ((r ++ c) ++ t) ++ rest ≡ r ++ (c ++ (t ++ rest))
regroup r c t rest = simp append_assoc

module _ (names : FileNames) (q : FeatureQuestion) (a rest : Asked) (one : IsQuestionRead names q a) where
  in_parts : (l : Asked) → a ++ rest ≡ l → one.for_record ++ (one.for_choice ++ (one.for_table ++ rest)) ≡ l
  in_parts l same =
      sym (regroup one.for_record one.for_choice one.for_table rest) ∙ ap (λ (l : Asked). l ++ rest) (sym one.in_order) ∙ same

  pub question_once : (p : FeatureQuestion) (b more : Asked) → IsQuestionRead names p b → a ++ rest ≡ b ++ more → IsOneQuestion q p × (rest ≡ more)
  question_once p b more other same =
      let lists = in_parts (b ++ more) same ∙ ap (λ (l : Asked). l ++ more) other.in_order ∙ regroup other.for_record other.for_choice other.for_table more in
      let first = read_first record_file names.workspace q.record.value one.for_record other.for_record (one.for_choice ++ (one.for_table ++ rest)) (other.for_choice ++ (other.for_table ++ more)) one.workspace p.record.value other.workspace lists in
      let second = choice_once names.choice q.choice p.choice one.for_choice other.for_choice (one.for_table ++ rest) (other.for_table ++ more) one.choice other.choice first.1 in
      let third = table_once names.table q.table p.table one.for_table other.for_table rest more one.table other.table second.1 in
      (record { workspace = first.0; choice = second.0; table = third.0 }, third.1)

  choice_fails : (f : RunFailure) → ChoiceFails names f (a ++ rest) → f ≡ Memory
  choice_fails f h =
      let lists = in_parts (a ++ rest) refl ∙ h.in_order in
      let first = read_first record_file names.workspace q.record.value one.for_record h.for_record (one.for_choice ++ (one.for_table ++ rest)) h.for_choice one.workspace h.workspace h.read lists in
      if_named_fails_for_memory _ choice_file _ q.choice one.for_choice h.for_choice (one.for_table ++ rest) [] names.choice one.choice f h.fails (first.1 ∙ sym (append-nil h.for_choice))

  table_fails : (f : RunFailure) → TableFails names f (a ++ rest) → f ≡ Memory
  table_fails f h =
      let lists = in_parts (a ++ rest) refl ∙ h.in_order ∙ append_assoc h.for_record h.for_choice h.for_table in
      let first = read_first record_file names.workspace q.record.value one.for_record h.for_record (one.for_choice ++ (one.for_table ++ rest)) (h.for_choice ++ h.for_table) one.workspace h.workspace h.read lists in
      let second = choice_once names.choice q.choice h.choice one.for_choice h.for_choice (one.for_table ++ rest) h.for_table one.choice h.chosen first.1 in
      if_named_fails_for_memory table_view table_file _ q.table one.for_table h.for_table rest [] names.table one.table f h.fails (second.1 ∙ sym (append-nil h.for_table))

  -- a question that was read fails for want of memory alone
  pub question_fails_for_memory : (f : RunFailure) → ReadsQuestion names (Err f) (a ++ rest) → f ≡ Memory
  question_fails_for_memory f (inl h) =
      fails_for_memory record_file names.workspace q.record.value one.for_record (a ++ rest) (one.for_choice ++ (one.for_table ++ rest)) [] one.workspace f h (in_parts (a ++ rest) refl ∙ sym (append-nil (a ++ rest)))
  question_fails_for_memory f (inr (inl h)) = choice_fails f h
  question_fails_for_memory f (inr (inr h)) = table_fails f h
