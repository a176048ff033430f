-- The parts of a call, taken apart.
use Rattle.std.specs.Prelude.{List, [], Some, map, ℕ}
use Rattle.workspace_record.specs.Records.{Text}
use Rattle.test_select_files.specs.Listed.{AnswersListed}
use Rattle.test_select.specs.Running.{EndsProgram}
use Rattle.test_select_c.specs.Pieces.{AreFiles, AreWords}
use Rattle.test_select_c.specs.PieceViews.{file_view}
use Rattle.test_select_c.specs.declared.printing.Call.{Call}

-- the words of a call, as texts
abbrev pub texts_of : Call → List Text
texts_of call = map (λ word. word.now) call.words.items

-- the call is what the bytes say
pub record IsTakenFrom (words files : List ℕ) (call : Call) : Type 0 where
  pub are_words : AreWords words (texts_of call)
  pub are_files : AreFiles files (map file_view call.files.items)

-- the program ran on the call, from empty streams
abbrev pub EndsOver : Call → Text → Text → ℕ → Type 0
EndsOver call out err status =
    EndsProgram (texts_of call) (AnswersListed call.files.items) [] [] (Some []) (Some out) (Some []) (Some err) status
