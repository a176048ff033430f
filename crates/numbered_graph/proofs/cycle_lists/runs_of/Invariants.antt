use Rattle.std.proofs.Common.{◌≡◌, ◌≢◌, ℕ, ◌-◌, ◌<◌, ◌≤◌, length, get_or, take, map, flat_map}
use Rattle.numbered_graph.specs.Cycles.{AreRuns}
use Rattle.numbered_graph.proofs.cycle_lists.runs_of.Given as goal

abbrev pub invariant-loop-start : goal.invariant-loop-start
invariant-loop-start l = record {
  within : l.start ≤ length l.nodes;
  whole : flat_map (λ c. c) (map (λ c. c.items) l.runs.items) ≡ take l.start l.nodes;
  runs : AreRuns l.keys (map (λ c. c.items) l.runs.items);
  cut : (i : ℕ) → i < l.start → l.start < length l.nodes → get_or l.keys (get_or l.nodes i 0) 0 ≢ get_or l.keys (get_or l.nodes l.start 0) 0;
}

abbrev pub decreases-loop-start : goal.decreases-loop-start
decreases-loop-start l = length l.nodes - l.start
