use Rattle.std.proofs.Common.{IsTrue, map}
use Rattle.numbered_graph.specs.Sets.{has}
use Rattle.guppy_package_parts.specs.declared.dependency_direction.DependencyDirection.TheVariants.{Forward}
use Rattle.guppy_package_graph.specs.Members.{IsCalledOneOf}
use Rattle.guppy_package_graph.proofs.QueryFacts.{query_by}
use Rattle.guppy_package_graph.proofs.package_graph.PackageGraph.query_workspace_names.Goals as goal

pub returns-clause-query : goal.returns-clause-query
returns-clause-query c = query_by c.args.self.now Forward (λ v. IsTrue (has c.in_ok-members.members v)) (IsCalledOneOf c.args.self.now (map (λ name. name.now) c.args.names.now)) c.in_ok-query.query c.in_ok-members.ensures.named c.in_ok-query.ensures
