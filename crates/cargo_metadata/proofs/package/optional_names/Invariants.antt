use Rattle.std.proofs.Common.{◌≡◌, ◌++◌, [], drop}
use Rattle.list_facts.specs.Texts.{texts}
use Rattle.cargo_metadata.specs.Packages.{optional_names}
use Rattle.cargo_metadata.proofs.package.optional_names.Given as goal

abbrev pub invariant-loop-dependency : goal.invariant-loop-dependency
invariant-loop-dependency l =
    texts l.names.items ++ optional_names (texts l.names.items) (drop l.dependency-index l.dependencies) ≡ optional_names [] l.dependencies
