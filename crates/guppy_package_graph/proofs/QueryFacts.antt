-- Queries from the places that pass one test or another.
use Rattle.std.proofs.Common.{◌↔◌, ℕ}
use Rattle.guppy_package_parts.specs.declared.dependency_direction.DependencyDirection.{DependencyDirection}
use Rattle.guppy_package_table.specs.Tables.{TableValue}
use Rattle.guppy_package_graph.specs.Queries.{IsQueryOf, QueryValue}

pub query_by : (g : TableValue) (d : DependencyDirection) (P Q : ℕ → Type 0) (q : QueryValue) → ((v : ℕ) → P v ↔ Q v) → IsQueryOf g d P q → IsQueryOf g d Q q
query_by g d P Q q same h = record {
  graph = h.graph;
  directed = h.directed;
  initials = record {
    ascending = h.initials.ascending;
    each = λ v. (λ inside. (same v).0 ((h.initials.each v).0 inside), λ passes. (h.initials.each v).1 ((same v).1 passes));
  };
}
