use Rattle.std.proofs.Common.{IsTrue}
use Rattle.numbered_graph.specs.Sets.{has}
use Rattle.guppy_package_parts.specs.declared.dependency_direction.DependencyDirection.TheVariants.{Forward}
use Rattle.guppy_package_graph.specs.Workspaces.{IsMemberPlace}
use Rattle.guppy_package_graph.proofs.QueryFacts.{query_by}
use Rattle.guppy_package_graph.proofs.package_graph.PackageGraph.query_workspace.Goals as goal

pub returns : goal.returns
returns c = record { query = query_by c.args.self.now Forward (λ v. IsTrue (has c.in_ok-members.members v)) (IsMemberPlace c.args.self.now) c.in_ok-query.query c.in_ok-members.ensures.members c.in_ok-query.ensures }
