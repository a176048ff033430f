use Rattle.std.proofs.Common.{◌∙◌, ◌↔◌, Contains, IsTrue, subst, sym}
use Rattle.numbered_graph.specs.Roots.{IsRoot}
use Rattle.numbered_graph.specs.Sets.{has}
use Rattle.guppy_package_table.specs.Tables.{numbered_links}
use Rattle.guppy_package_graph.specs.Directions.{direction_of}
use Rattle.guppy_package_graph.proofs.PlaceFacts.{ok_more}
use Rattle.guppy_package_graph.proofs.package_set.PackageSet.root_packages.Goals as goal

pub returns-clause-each : goal.returns-clause-each
returns-clause-each c =
    let g = c.args.self.now.graph in
    let set = c.args.self.now.included in
    ok_more c.packages_of.result (λ ps is v. subst (λ xs. Contains xs v ↔ (IsTrue (has set v) × IsRoot (direction_of c.args.direction) (numbered_links g) set v)) (sym (is ∙ c.deref.ensures.value)) (c.in_ok-places.ensures.each v)) c.packages_of.ensures.places
