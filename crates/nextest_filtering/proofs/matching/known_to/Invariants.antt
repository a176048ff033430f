use Rattle.std.proofs.Common.{◌↔◌, ℕ, map, take}
use Rattle.guppy_package_graph.specs.Finding.{AreKnown, IsNamed}
use Rattle.nextest_filtering.proofs.matching.known_to.Given as goal

abbrev pub invariant-loop-id : goal.invariant-loop-id
invariant-loop-id l = record {
  known : AreKnown l.graph (map (λ i. i.now) l.known.items);
  same : (place : ℕ) → IsNamed l.graph (map (λ i. i.now) l.known.items) place ↔ IsNamed l.graph (map (λ i. i.now) (take l.id-index l.ids)) place;
}
