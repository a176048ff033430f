use Rattle.std.proofs.Common.{◌≡◌, ◌∙◌, ◌↔◌, IsTrue, ap, subst}
use Rattle.numbered_graph.specs.Graphs.{GraphValue}
use Rattle.numbered_graph.specs.Paths.{Reaches, any_link}
use Rattle.guppy_package_graph.specs.Queries.{places_of}
use Rattle.guppy_package_graph.proofs.package_graph.PackageGraph.depends_on.Goals as goal

pub returns-in_ok-leads-in-Ok : goal.returns-in_ok-leads-in-Ok
returns-in_ok-leads-in-Ok c =
    let graph : c.graph.result.now ≡ places_of c.args.self.now = c.graph.ensures ∙ ap places_of c.table.ensures in
    record {
      answer = record {
        from = c.in-Ok.from;
        to = c.in-Ok.to;
        is_from = c.in-Ok.ensures.0;
        is_to = c.in-Ok.ensures.1;
        says = subst (λ (g : GraphValue). IsTrue c.in_ok-leads-in-Ok.leads ↔ Reaches g.links any_link c.in-Ok.from c.in-Ok.to) graph c.in_ok-leads-in-Ok.ensures.leads;
      };
    }
