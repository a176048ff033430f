-- Sets of texts that are lent.
use Rattle.std.specs.Prelude.{Bool}
use Rattle.std.specs.Borrow.{Bor}
use Rattle.std.specs.Str.{bytes_eq}
use Rattle.indexmap.specs.IndexSet.{IndexSet, contains_by}
use Rattle.workspace_record.specs.Records.{Text}

-- the set has the text
abbrev pub has_text : {S : Type 0} → IndexSet (Bor Text) S → Text → Bool
has_text set x = contains_by (λ k. bytes_eq x k.now) set
