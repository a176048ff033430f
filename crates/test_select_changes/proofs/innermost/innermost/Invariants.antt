use Rattle.std.proofs.Common.{◌≤◌, length}
use Rattle.test_select_changes.specs.PartViews.{lent_parts}
use Rattle.test_select_changes.proofs.InnermostFacts.{IsSearched}
use Rattle.test_select_changes.proofs.innermost.innermost.Given as goal

abbrev pub invariant-loop-found : goal.invariant-loop-found
invariant-loop-found l = (l.length ≤ length l.parts) × IsSearched l.folders (lent_parts l.parts) l.length l.found

abbrev pub decreases-loop-found : goal.decreases-loop-found
decreases-loop-found l = l.length
