use Rattle.std.proofs.Common.{◌≡◌, ◌+◌, ◌-◌, ◌≤◌, length}
use Rattle.numbered_graph.specs.Walks.{opened_of}
use Rattle.numbered_offers.specs.Keeping.{run_of}
use Rattle.numbered_offers.specs.States.{Rests, IsSameWalk}
use Rattle.numbered_offers.proofs.state.next_due.Given as goal

abbrev pub invariant-loop-number : goal.invariant-loop-number
invariant-loop-number g l = record {
  rests : Rests l.state;
  run : run_of l.state.asked.items ≡ run_of l.fn.state.asked.items;
  walk : IsSameWalk l.fn.state l.state;
  shown : length l.fn.state.walk.shown ≤ length l.state.walk.shown;
  looks : l.looks + opened_of l.fn.state.walk ≡ l.fn.looks + opened_of l.state.walk;
}

abbrev pub decreases-loop-number : goal.decreases-loop-number
decreases-loop-number g l = length l.state.walk.graph.links - length l.state.walk.shown
