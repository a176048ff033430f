use Rattle.std.proofs.Common.{◌↔◌, IsTrue, sym, subst}
use Rattle.std.proofs.lemmas.List.{length-map}
use Rattle.guppy_package_table.specs.Tables.{ids_of, link_between}
use Rattle.guppy_package_graph.specs.Depending.{HasLink}
use Rattle.guppy_package_graph.proofs.DependFacts.{SaysBetween, linked}
use Rattle.guppy_package_graph.proofs.package_graph.PackageGraph.directly_depends_on.Goals as goal

pub returns-in-Ok : goal.returns-in-Ok
returns-in-Ok c =
    let g = c.args.self.now in
    let between : SaysBetween g c.in-Ok.from c.in-Ok.to c.link_between.result = subst (λ t. SaysBetween t c.in-Ok.from c.in-Ok.to c.link_between.result) c.table.ensures (record { some = c.link_between.ensures.some; none = c.link_between.ensures.none }) in
    record {
      answer = record {
        from = c.in-Ok.from;
        to = c.in-Ok.to;
        is_from = c.in-Ok.ensures.0;
        is_to = c.in-Ok.ensures.1;
        says = subst (λ b. IsTrue b ↔ HasLink g c.in-Ok.from c.in-Ok.to) (sym c.is_some.ensures) (linked g c.in-Ok.from c.in-Ok.to c.link_between.result (length-map g.links (link_between (ids_of g.packages))) between.some between.none);
      };
    }
