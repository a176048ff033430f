use Rattle.std.proofs.Common.{rules, ◌≡◌, List, Bor, ℕ, map}
use Rattle.guppy_package_graph.specs.Finding.{IsNamed}
use Rattle.guppy_package_graph.proofs.QueryFacts.{query_by}
use Rattle.nextest_filtering.proofs.ReachFacts.{reached_of}
use Rattle.nextest_filtering.proofs.parse_context.ParseContext.reached.Goals as goal

pub returns-in-Ok : goal.returns-in-Ok
returns-in-Ok c =
    let text : Bor (List ℕ) → List ℕ = λ id. id.now in
    let starts = map text c.args.starts.now in
    let known = map text c.in_ok-known.known.items in
    let lent : c.deref.result.now ≡ c.in_ok-known.known.items = search rules in
    let asked = query_by _ c.args.direction (IsNamed c.args.self.now.graph known) (IsNamed c.args.self.now.graph starts) c.in-Ok.query (rw c.graph.ensures.graph at c.in_ok-known.ensures.same) (rw (c.graph-2.ensures.graph, lent) at c.in-Ok.ensures.query) in
    reached_of c.args.self.now _ starts _ _ c.in-Ok.query c.in_ok-reached-in-Ok.reached asked c.in_ok-reached-in-Ok.ensures.reached c.packages.ensures c.in_ok-ids-in-Ok.ensures
