use Rattle.std.proofs.Common.{◌-◌, length}
use Rattle.guppy_feature_graph.proofs.DependFacts.{IsLooking, place_or_end}
use Rattle.guppy_feature_graph.proofs.depending.has_link.Given as goal

abbrev pub invariant-loop-next : goal.invariant-loop-next
invariant-loop-next l = IsLooking l.graph.links l.from l.to l.next

abbrev pub decreases-loop-next : goal.decreases-loop-next
decreases-loop-next l = length l.graph.links - place_or_end l.graph.links l.next
