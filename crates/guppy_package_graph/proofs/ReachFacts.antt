-- What a walk from the initials of a query reaches, in the words of its graph.
use Rattle.std.proofs.Common.{◌≡◌, ◌↔◌, ℕ, ◌+◌, ◌≤◌, Bool, List, IsTrue, length, subst}
use Rattle.std.proofs.lemmas.List.{length-map}
use Rattle.numbered_graph.specs.declared.direction.Direction.{Direction}
use Rattle.numbered_graph.specs.Graphs.{GraphValue}
use Rattle.numbered_graph.specs.Paths.{IsReached, any_link}
use Rattle.numbered_graph.specs.Sets.{has}
use Rattle.guppy_package_table.specs.Tables.{TableValue, ids_of, link_between, numbered_links}
use Rattle.guppy_package_graph.specs.Directions.{direction_of}
use Rattle.guppy_package_graph.specs.Queries.{QueryValue, places_of}
use Rattle.guppy_package_graph.specs.Resolves.{IsReachOf}

module _ (g : TableValue) (places : GraphValue) (is : places ≡ places_of g) where
  pub looks_of : (after before : ℕ) → after ≤ before + (places.nodes + length places.links) → after ≤ before + (length g.packages + length g.links)
  looks_of after before h =
      let numbered = subst (λ (x : GraphValue). after ≤ before + (x.nodes + length x.links)) is h in
      subst (λ n. after ≤ before + (length g.packages + n)) (length-map g.links (link_between (ids_of g.packages))) numbered

pub reach_of : (q : QueryValue) (g : TableValue) (places : GraphValue) (d : Direction) (starts : List ℕ) (set : List Bool) → g ≡ q.graph → places ≡ places_of q.graph → d ≡ direction_of q.direction → starts ≡ q.initials → ((v : ℕ) → IsTrue (has set v) ↔ IsReached d places.links any_link starts v) → IsReachOf q (record { graph = g; included = set })
reach_of q g places d starts set graph is directed initials reached = record {
  graph = graph;
  members = λ v.
      let numbered = subst (λ (x : GraphValue). IsTrue (has set v) ↔ IsReached d x.links any_link starts v) is (reached v) in
      let there = subst (λ x. IsTrue (has set v) ↔ IsReached x (numbered_links q.graph) any_link starts v) directed numbered in
      subst (λ xs. IsTrue (has set v) ↔ IsReached (direction_of q.direction) (numbered_links q.graph) any_link xs v) initials there;
}
