use Rattle.guppy_package_graph.specs.PackagesViews.{all_left}
use Rattle.guppy_package_graph.specs.SetValues.{listed}
use Rattle.nextest_filtering.proofs.ContextFacts.{IsAdding}
use Rattle.nextest_filtering.proofs.parse_context.names_of.Given as goal

abbrev pub invariant-loop-member : goal.invariant-loop-member
invariant-loop-member l = IsAdding l.packages.graph (listed l.packages) (all_left l.member-iterator) l.names
