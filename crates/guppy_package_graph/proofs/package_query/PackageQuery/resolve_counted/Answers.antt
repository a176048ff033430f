use Rattle.std.proofs.Common.{◌≡◌, ◌∙◌, ◌<◌, All, ap, subst, sym}
use Rattle.numbered_graph.specs.Graphs.{GraphValue}
use Rattle.guppy_package_graph.specs.Directions.{direction_of}
use Rattle.guppy_package_graph.specs.Queries.{places_of}
use Rattle.guppy_package_graph.specs.Resolves.{IsReachOf}
use Rattle.guppy_package_graph.proofs.ReachFacts.{looks_of, reach_of}
use Rattle.guppy_package_graph.proofs.package_query.PackageQuery.resolve_counted.Goals as goal

pub reach_counted-requires : goal.reach_counted-requires
reach_counted-requires g c =
    let places : c.graph.result.now ≡ places_of c.args.self.graph = c.graph.ensures ∙ ap places_of (c.table.ensures ∙ c.graph-graph.ensures.graph) in
    subst (λ (x : GraphValue). All (λ v. v < x.nodes) c.starts.result.now) (sym places) c.starts.ensures.within

pub of-requires : goal.of-requires
of-requires g c =
    let places : c.graph.result.now ≡ places_of c.graph-graph.result.now = c.graph.ensures ∙ ap places_of c.table.ensures in
    c.in_ok-reached.ensures.sized ∙ ap (λ (x : GraphValue). x.nodes) places

pub returns-clause-reached : goal.returns-clause-reached
returns-clause-reached g c =
    let q = c.args.self in
    let graph : c.graph-graph.result.now ≡ q.graph = c.graph-graph.ensures.graph in
    let places : c.graph.result.now ≡ places_of q.graph = c.graph.ensures ∙ ap places_of (c.table.ensures ∙ graph) in
    let direction = c.direction_of-direction.ensures ∙ ap direction_of c.direction.ensures.direction in
    let reach = reach_of q c.graph-graph.result.now c.graph.result.now c.direction_of-direction.result c.starts.result.now c.in_ok-reached.reached in
    subst (IsReachOf q) (sym c.of.ensures) (reach graph places direction c.starts.ensures.value c.in_ok-reached.ensures.reached)

pub returns-clause-looks : goal.returns-clause-looks
returns-clause-looks g c =
    let places : c.graph.result.now ≡ places_of c.args.self.graph = c.graph.ensures ∙ ap places_of (c.table.ensures ∙ c.graph-graph.ensures.graph) in
    looks_of c.args.self.graph c.graph.result.now places c.reach_counted.new.looks c.args.looks.now c.in_ok-reached.ensures.looks

pub returns-in_err-reached-clause-looks : goal.returns-in_err-reached-clause-looks
returns-in_err-reached-clause-looks g c =
    let places : c.graph.result.now ≡ places_of c.args.self.graph = c.graph.ensures ∙ ap places_of (c.table.ensures ∙ c.graph-graph.ensures.graph) in
    looks_of c.args.self.graph c.graph.result.now places c.reach_counted.new.looks c.args.looks.now c.reach_counted.ensures.looks
