-- What the files of a source answer.
use Rattle.std.specs.Prelude.{◌≡◌, ℕ, List, [], ◌∷◌, Result, Ok, Err, Vec}
use Rattle.std.specs.Global.{Global}
use Rattle.workspace_record.specs.Records.{Text}
use Rattle.test_select_files.specs.declared.file_source.FileFault.{FileFault}

-- the bytes of a file, or why it was not read
abbrev pub Answer : Type 0
Answer = Result (List ℕ) FileFault

-- the bytes that were answered, as a list
abbrev pub answer_of : Result (Vec ℕ Global) FileFault → Answer
answer_of (Ok bytes) = Ok bytes.items
answer_of (Err fault) = Err fault

-- two sources answer alike: in each state each name may have the same answers, which lead to the same states
pub record SameAnswers {S A : Type 0} (P Q : S → Text → A → S → Type 0) : Type 0 where
  pub there : (s : S) (name : Text) (a : A) (t : S) → P s name a t → Q s name a t
  pub back : (s : S) (name : Text) (a : A) (t : S) → Q s name a t → P s name a t

-- files that were asked for, one by one, each by its name and with its answer, lead from the one state to the other
abbrev pub Answered : {S A : Type 0} → (S → Text → A → S → Type 0) → S → List (Text × A) → S → Type 0
Answered R s [] t = t ≡ s
Answered R s (file ∷ files) t = (between : _) × R s file.0 file.1 between × Answered R between files t
