use Rattle.std.proofs.Common.{◌≡◌, ◌+◌, ◌-◌, length}
use Rattle.numbered_graph.specs.Walks.{opened_of}
use Rattle.numbered_graph.specs.Walking.{seen, Stands}
use Rattle.numbered_graph.proofs.walk.Walk.take_counting_nodes.Given as goal

abbrev pub invariant-loop-self : goal.invariant-loop-self
invariant-loop-self g l = record {
  stands : Stands l.self-inside;
  kept : seen l.self-inside ≡ record l.fn.self { looked = (seen l.self-inside).looked };
  looks : l.looks + opened_of l.fn.self ≡ l.fn.looks + l.self-inside.opened;
  links : (seen l.self-inside).looked + opened_of l.fn.self ≡ l.fn.self.looked + l.self-inside.opened;
}

abbrev pub decreases-loop-self : goal.decreases-loop-self
decreases-loop-self g l = length l.self-inside.order.items - l.self-inside.opened
