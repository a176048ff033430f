use Rattle.std.proofs.Common.{◌≡◌, ◌≤◌, [], take, vec_capacity}
use Rattle.numbered_graph.specs.Walks.{AreListed, AreFollowed}
use Rattle.numbered_graph.proofs.walk.Walk.new.Given as goal

abbrev pub invariant-loop-node : goal.invariant-loop-node
invariant-loop-node l = record {
  nodes : l.nodes ≡ l.graph.nodes;
  listed : AreListed l.nodes l.reached.items l.order.items;
  followed : AreFollowed l.direction l.graph.links (take l.node-index l.starts) [] l.reached.items;
  room : l.nodes ≤ vec_capacity l.order;
}
