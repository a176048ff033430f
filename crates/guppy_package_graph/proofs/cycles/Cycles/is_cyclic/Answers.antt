use Rattle.std.proofs.Common.{◌<◌, subst, sym}
use Rattle.numbered_graph.specs.declared.direction.Direction.TheVariants.{Forward}
use Rattle.guppy_package_table.specs.Tables.{numbered_links}
use Rattle.guppy_package_graph.specs.CycleValues.{CyclesValue, SaysCyclic}
use Rattle.guppy_package_graph.proofs.cycles.Cycles.is_cyclic.Goals as goal

pub is_cyclic-requires : goal.is_cyclic-requires
is_cyclic-requires c =
    let counted = sym c.self.invariant.counted in
    (subst (λ n. c.in-Ok.a < n) counted c.in-Ok.ensures.2, subst (λ n. c.in-Ok.b < n) counted c.in-Ok.ensures.3)

pub returns-in-Ok : goal.returns-in-Ok
returns-in-Ok c =
    record {
      answer = subst (λ (v : CyclesValue). SaysCyclic v.graph c.args.package_a.now c.args.package_b.now c.is_cyclic.result) c.self.view_is (record {
        from = c.in-Ok.a;
        to = c.in-Ok.b;
        is_from = c.in-Ok.ensures.0;
        is_to = c.in-Ok.ensures.1;
        says = c.is_cyclic.ensures Forward (numbered_links c.self.inside.graph.now) c.self.invariant.cyclic;
      });
    }
