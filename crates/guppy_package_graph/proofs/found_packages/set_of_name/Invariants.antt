use Rattle.std.proofs.Common.{◌≡◌, ◌↔◌, ℕ, ◌<◌, IsTrue, length}
use Rattle.std.specs.Str.{bytes_eq}
use Rattle.numbered_graph.specs.Sets.{has}
use Rattle.guppy_package_table.specs.Members.{name_at}
use Rattle.guppy_package_graph.proofs.found_packages.set_of_name.Given as goal

abbrev pub invariant-loop-place : goal.invariant-loop-place
invariant-loop-place l = record {
  sized : length l.set ≡ length l.graph.packages;
  named : (v : ℕ) → IsTrue (has l.set v) ↔ ((v < l.place) × IsTrue (bytes_eq (name_at l.graph v) l.name));
}
