-- What follows of files that were asked for.
use Rattle.std.proofs.Common.{◌≡◌, ◌++◌, ℕ, List, [], ◌∷◌, refl, subst, inl, inr, sym, ap, Result, Ok, Err}
use Rattle.std.specs.Prelude.{Option, Some, IsErrAnd}
use Rattle.std.specs.Borrow.{Bor}
use Rattle.serde_json.specs.Data.{Data}
use Rattle.workspace_record.specs.Choices.{Choice}
use Rattle.workspace_record.specs.Records.{Text, Workspace}
use Rattle.record_files.specs.Faults.{Fault}
use Rattle.record_files.specs.Files.{ReadsFile}
use Rattle.record_files.specs.declared.error.ReadError.{ReadError}
use Rattle.record_files.specs.declared.error.ReadError.TheVariants as error
use Rattle.test_select_files.specs.Files.{Answer, Answered, SameAnswers}
use Rattle.test_select_files.specs.Reading.{Asked, Asks, EndsAfter, ReadsAs, ReadsBoth, ReadsBytes, ReadsChoice, ReadsIfNamed, ReadsQuestion, ReadsRecord, ReadsTable}
use Rattle.test_select_files.specs.Refusals.{accepted, unread}
use Rattle.test_select_files.specs.Words.{FileNames, files_named, name_in, word_or_empty}
use Rattle.clap.specs.Words.{Row}
use Rattle.test_select_files.specs.declared.file_source.FileFault.{FileFault}
use Rattle.test_select_files.specs.declared.file_source.FileFault.TheVariants as fault
use Rattle.test_select_files.specs.declared.inputs.FeatureQuestion.{FeatureQuestion}
use Rattle.test_select_files.specs.declared.run_failure.RunFailure.{RunFailure}

-- a source answers as it does
pub SameAnswers-refl : {S A : Type 0} (P : S → Text → A → S → Type 0) → SameAnswers P P
SameAnswers-refl P = record { there = λ s x a t h. h; back = λ s x a t h. h }

-- one after another
pub SameAnswers-trans : {S A : Type 0} {P Q R : S → Text → A → S → Type 0} → SameAnswers P Q → SameAnswers Q R → SameAnswers P R
SameAnswers-trans p q = record {
  there = λ s x a t h. q.there s x a t (p.there s x a t h);
  back = λ s x a t h. p.back s x a t (q.back s x a t h);
}

-- what another source answers that answers alike
pub answered_alike : {S A : Type 0} {P Q : S → Text → A → S → Type 0} → SameAnswers P Q → (s : S) (xs : List (Text × A)) (t : S) → Answered Q s xs t → Answered P s xs t
answered_alike same s [] t h = h
answered_alike same s (x ∷ xs) t h = (h.0, same.back s x.0 x.1 h.0 h.1, answered_alike same h.0 xs t h.2)

-- some files, and then others
pub answered_then : {S A : Type 0} (P : S → Text → A → S → Type 0) (s : S) (xs : List (Text × A)) (m : S) (ys : List (Text × A)) (t : S) → Answered P s xs m → Answered P m ys t → Answered P s (xs ++ ys) t
answered_then P s [] m ys t h k = subst (λ x. Answered P x ys t) h k
answered_then P s (x ∷ xs) m ys t h k = (h.0, h.1, answered_then P h.0 xs m ys t h.2 k)

module _ {R Q : List ℕ → Text → Answer → List ℕ → Type 0} {s m t : List ℕ} where
  -- files are asked for, and then others of a source that answers alike
  pub asks_then : {H K L : Asked → Type 0} → SameAnswers R Q → Asks R s m H → Asks Q m t K → ((a b : Asked) → H a → K b → L (a ++ b)) → Asks R s t L
  asks_then same first next both = record {
    asked = first.asked ++ next.asked;
    answered = answered_then R s first.asked m next.asked t first.answered (answered_alike same m next.asked t next.answered);
    holds = both first.asked next.asked first.holds next.holds;
  }

module _ {R : List ℕ → Text → Answer → List ℕ → Type 0} {s t : List ℕ} where
  -- what follows of the files that were asked for
  pub asks_such : {H K : Asked → Type 0} → Asks R s t H → ((a : Asked) → H a → K a) → Asks R s t K
  asks_such asks such = record { asked = asks.asked; answered = asks.answered; holds = such asks.asked asks.holds }

  -- one file is asked for
  pub asks_one : (name : Text) (a : Answer) → R s name a t → Asks R s t (λ asked. asked ≡ (name, a) ∷ [])
  asks_one name a h = record { asked = (name, a) ∷ []; answered = (t, h, refl); holds = refl }

-- ---- one file

module _ {R : List ℕ → Text → Answer → List ℕ → Type 0} {s t : List ℕ} where
  -- a file that is not read was asked for
  pub unread_asks : (name : Bor (List ℕ)) (why : FileFault) (failure : RunFailure) → failure ≡ unread name why → R s name.now (Err why) t → Asks R s t (ReadsBytes name.now (Err failure))
  unread_asks name why failure is h = subst (λ (f : RunFailure). Asks R s t (ReadsBytes name.now (Err f))) (sym is) (asked why h)
    where
      asked : (why : FileFault) → R s name.now (Err why) t → Asks R s t (ReadsBytes name.now (Err (unread name why)))
      asked fault.CannotRead h = record { asked = (name.now, Err fault.CannotRead) ∷ []; answered = (t, h, refl); holds = (refl, refl) }
      asked fault.Memory h = record { asked = (name.now, Err fault.Memory) ∷ []; answered = (t, h, refl); holds = tt }

module _ {X Y : Type 0} (shows : X → Y) (format : Data → Result Y Fault) where
  -- what is read of the bytes that were answered
  pub accepted_reads : (name : Bor (List ℕ)) (bytes : List ℕ) (result : Result X ReadError) (a : Asked) → ReadsFile shows format bytes result → ReadsBytes name.now (Ok bytes) a → ReadsAs shows format name.now (accepted name result) a
  accepted_reads name bytes (Ok x) a h only = record { bytes = bytes; only = only; reading = h }
  accepted_reads name bytes (Err error.Memory) a h only = tt
  accepted_reads name bytes (Err error.BadJson) a h only = (refl, record { bytes = bytes; only = only; refused = h })
  accepted_reads name bytes (Err (error.BadShape field)) a h only = (refl, record { bytes = bytes; only = only; refused = h })

  module _ {R : List ℕ → Text → Answer → List ℕ → Type 0} {s t : List ℕ} where
    -- the same of a file that was asked for
    pub accepted_asks : (name : Bor (List ℕ)) (bytes lent : List ℕ) (read : Result X ReadError) (result : Result X RunFailure) → Asks R s t (ReadsBytes name.now (Ok bytes)) → lent ≡ bytes → ReadsFile shows format lent read → result ≡ accepted name read → Asks R s t (ReadsAs shows format name.now result)
    accepted_asks name bytes lent read result asks same h is =
        subst (λ (r : Result X RunFailure). Asks R s t (ReadsAs shows format name.now r)) (sym is)
        (asks_such asks (λ a only. accepted_reads name bytes read a (subst (λ (b : List ℕ). ReadsFile shows format b read) same h) only))

    -- a file that is named is read as any other
    pub named_asks : (absent : X → Type 0) (may_name : Option (Bor (List ℕ))) (name : Bor (List ℕ)) (result : Result X RunFailure) → may_name ≡ Some name → Asks R s t (ReadsAs shows format name.now result) → Asks R s t (ReadsIfNamed shows format absent (name_in may_name) result)
    named_asks absent may_name name result is h = subst (λ (o : Option (Bor (List ℕ))). Asks R s t (ReadsIfNamed shows format absent (name_in o) result)) (sym is) h

-- ---- the files of a question

-- the record and the choice were read
abbrev BothRead : FileNames → Workspace → Choice → Asked → Type 0
BothRead names w c ab = (a : Asked) × (b : Asked) × (ab ≡ a ++ b) × ReadsRecord names.workspace (Ok w) a × ReadsChoice names.choice (Ok c) b

module _ {R Q : List ℕ → Text → Answer → List ℕ → Type 0} {s m n : List ℕ} (names : FileNames) (w : Workspace) where
  -- the record was read, and the choice fails
  pub choice_fails : (f : RunFailure) (result : Result FeatureQuestion RunFailure) → IsErrAnd result (λ y. y ≡ f) → SameAnswers R Q → Asks R s m (ReadsRecord names.workspace (Ok w)) → Asks Q m n (ReadsChoice names.choice (Err f)) → Asks R s n (ReadsQuestion names result)
  choice_fails f (Ok x) is same first next = absurd is
  choice_fails f (Err y) is same first next =
      subst (λ (f : RunFailure). Asks R s n (ReadsQuestion names (Err f))) (sym is)
      (asks_then same first next (λ a b h k. inr (inl (record { for_record = a; for_choice = b; in_order = refl; workspace = w; read = h; fails = k }))))

  -- both are read
  both_read : (c : Choice) → SameAnswers R Q → Asks R s m (ReadsRecord names.workspace (Ok w)) → Asks Q m n (ReadsChoice names.choice (Ok c)) → Asks R s n (BothRead names w c)
  both_read c same first next = asks_then same first next (λ a b h k. (a, b, refl, h, k))

module _ {R Q P : List ℕ → Text → Answer → List ℕ → Type 0} {s m n t : List ℕ} (names : FileNames) (w : Workspace) where
  -- the record and the choice were read, and the table fails
  pub table_fails : (c : Choice) (f : RunFailure) (result : Result FeatureQuestion RunFailure) → IsErrAnd result (λ y. y ≡ f) → SameAnswers R Q → SameAnswers Q P → Asks R s m (ReadsRecord names.workspace (Ok w)) → Asks Q m n (ReadsChoice names.choice (Ok c)) → Asks P n t (ReadsTable names.table (Err f)) → Asks R s t (ReadsQuestion names result)
  table_fails c f (Ok x) is same still first next last = absurd is
  table_fails c f (Err y) is same still first next last =
      subst (λ (f : RunFailure). Asks R s t (ReadsQuestion names (Err f))) (sym is)
      (asks_then (SameAnswers-trans same still) (both_read names w c same first next) last (λ ab d h k. inr (inr (record {
        for_record = h.0;
        for_choice = h.1;
        for_table = d;
        in_order = ap (λ l. l ++ d) h.2;
        workspace = w;
        read = h.3;
        choice = c;
        chosen = h.4;
        fails = k;
      }))))

  -- all are read
  pub question_read : (q : FeatureQuestion) → q.record.value ≡ w → SameAnswers R Q → SameAnswers Q P → Asks R s m (ReadsRecord names.workspace (Ok w)) → Asks Q m n (ReadsChoice names.choice (Ok q.choice)) → Asks P n t (ReadsTable names.table (Ok q.table)) → Asks R s t (ReadsQuestion names (Ok q))
  question_read q shared same still first next last =
      asks_then (SameAnswers-trans same still) (both_read names w q.choice same first next) last (λ ab d h k. record {
        for_record = h.0;
        for_choice = h.1;
        for_table = d;
        in_order = ap (λ l. l ++ d) h.2;
        workspace = subst (λ (v : Workspace). ReadsRecord names.workspace (Ok v) h.0) (sym shared) h.3;
        choice = h.4;
        table = k;
      })

-- ---- a question and one more file

module _ {X Y : Type 0} (shows : X → Y) (format : Data → Result Y Fault) (word : Text) (words : List Row) (names : FileNames) (named : names ≡ files_named words) where
  -- the question fails
  pub question_fails : {R : List ℕ → Text → Answer → List ℕ → Type 0} {s t : List ℕ} (f : RunFailure) (result : Result (FeatureQuestion × X) RunFailure) → IsErrAnd result (λ y. y ≡ f) → Asks R s t (ReadsQuestion names (Err f)) → Asks R s t (ReadsBoth shows format word words result)
  question_fails f (Ok x) is asks = absurd is
  question_fails {R} {s} {t} f (Err y) is asks =
      subst (λ (f : RunFailure). Asks R s t (ReadsBoth shows format word words (Err f))) (sym is)
      (asks_such asks (λ a h. inl (subst (λ (n : FileNames). ReadsQuestion n (Err f) a) named h)))

  module _ {R Q : List ℕ → Text → Answer → List ℕ → Type 0} {s m t : List ℕ} (name : Text) (is_name : name ≡ word_or_empty word words) (q : FeatureQuestion) where
    -- the question was read, and the file fails
    pub fails_with_file : (f : RunFailure) (result : Result (FeatureQuestion × X) RunFailure) → IsErrAnd result (λ y. y ≡ f) → SameAnswers R Q → Asks R s m (ReadsQuestion names (Ok q)) → Asks Q m t (ReadsAs shows format name (Err f)) → Asks R s t (ReadsBoth shows format word words result)
    fails_with_file f (Ok x) is same first next = absurd is
    fails_with_file f (Err y) is same first next =
        subst (λ (f : RunFailure). Asks R s t (ReadsBoth shows format word words (Err f))) (sym is)
        (asks_then same first next (λ a b h k. inr (record {
          for_question = a;
          for_file = b;
          in_order = refl;
          question = q;
          question_read = subst (λ (n : FileNames). ReadsQuestion n (Ok q) a) named h;
          fails = subst (λ (n : Text). ReadsAs shows format n (Err f) b) is_name k;
        })))

    -- both are read
    pub read_with_file : (value : X) → SameAnswers R Q → Asks R s m (ReadsQuestion names (Ok q)) → Asks Q m t (ReadsAs shows format name (Ok value)) → Asks R s t (ReadsBoth shows format word words (Ok (q, value)))
    read_with_file value same first next =
        asks_then same first next (λ a b h k. record {
          for_question = a;
          for_file = b;
          in_order = refl;
          question_read = subst (λ (n : FileNames). ReadsQuestion n (Ok q) a) named h;
          file_read = subst (λ (n : Text). ReadsAs shows format n (Ok value) b) is_name k;
        })

-- ---- how a run ends

module _ {X : Type 0} (Reads : Result X RunFailure → Asked → Type 0) (Ends : X → Type 0) (Stops : RunFailure → Type 0) {R : List ℕ → Text → Answer → List ℕ → Type 0} {s t : List ℕ} where
  -- what was read leads to an end
  pub ends_on : (x : X) → Asks R s t (Reads (Ok x)) → Ends x → Asks R s t (EndsAfter Reads Ends Stops)
  ends_on x asks ends = asks_such asks (λ a h. inl (record { value = x; read = h; ends = ends }))

  -- a file that fails does
  pub ends_by : (f : RunFailure) → Asks R s t (Reads (Err f)) → Stops f → Asks R s t (EndsAfter Reads Ends Stops)
  ends_by f asks stops = asks_such asks (λ a h. inr (record { failure = f; fails = h; stops = stops }))
