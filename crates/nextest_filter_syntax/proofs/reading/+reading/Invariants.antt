use Rattle.std.proofs.Common.{ℕ, ◌+◌, ◌-◌, ◌*◌, IfSome, length}
use Rattle.nextest_filter_matchers.specs.declared.source_span.SourceSpan.{SourceSpan}
use Rattle.nextest_filter_tokens.specs.ReadingSteps.{GoesOn, IsClean, Spoils}
use Rattle.nextest_filter_syntax.specs.FiltersAsWritten.{IsExprAsWritten}
use Rattle.nextest_filter_syntax.specs.Trees.{Tree}
use Rattle.nextest_filter_syntax.specs.Grammar.{MoreOf, Reads}
use Rattle.nextest_filter_syntax.specs.Reading.{Ends}
use Rattle.nextest_filter_syntax.proofs.StepFacts.{IsBegun}
use Rattle.nextest_filter_syntax.proofs.reading.+reading.Given as goal

abbrev pub decreases-tree_from : goal.decreases-tree_from
decreases-tree_from l = 4 * l.room + l.level + 1

abbrev pub decreases-operand_from : goal.decreases-operand_from
decreases-operand_from l = 4 * l.room

abbrev pub invariant-tree_from-loop-found : goal.invariant-tree_from-loop-found
invariant-tree_from-loop-found l = record {
  goes_on : GoesOn l.text l.at l.end l.fn.faults l.faults;
  spoils : Spoils l.tree l.fn.faults l.faults;
  read : IsClean l.faults → IsBegun l.text l.room l.level (l.level - 1) l.at l.tree l.end l.fn.faults l.faults;
  as_written : IfSome l.tree IsExprAsWritten;
  only : IsClean l.fn.faults → (t : Tree SourceSpan) (j : ℕ) → Reads l.text l.room l.level l.at t j → Ends l.text l.level j → IsClean l.faults × ((a : Tree SourceSpan) × MoreOf l.text l.room (l.level - 1) l.end a t j);
}

abbrev pub decreases-tree_from-loop-found : goal.decreases-tree_from-loop-found
decreases-tree_from-loop-found l = length l.text - l.end
