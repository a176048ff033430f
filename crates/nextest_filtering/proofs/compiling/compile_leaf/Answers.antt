use Rattle.nextest_filtering.proofs.AcceptFacts.{expected}
use Rattle.nextest_filtering.proofs.compiling.compile_leaf.Goals as goal

pub returns-in-Package-clause-faults : goal.returns-in-Package-clause-faults
returns-in-Package-clause-faults c = rw c.in-Package.is c.packages_of.ensures.faults

pub returns-in-Deps-clause-faults : goal.returns-in-Deps-clause-faults
returns-in-Deps-clause-faults c = rw c.in-Deps.is c.packages_of-in-Deps.ensures.faults

pub returns-in-Rdeps-clause-faults : goal.returns-in-Rdeps-clause-faults
returns-in-Rdeps-clause-faults c = rw c.in-Rdeps.is c.packages_of-in-Rdeps.ensures.faults

pub returns-in_ok-matcher-in-Binary-clause-faults : goal.returns-in_ok-matcher-in-Binary-clause-faults
returns-in_ok-matcher-in-Binary-clause-faults c =
    let added = c.in_ok-matcher-in-Binary.ensures.faults in
    rw c.in-Binary.is (expected _ _ _ _ _ (rw added.1 at c.has_binary_name-is_some.ensures) added.2)

pub returns-in_ok-matcher-in-BinaryId-clause-faults : goal.returns-in_ok-matcher-in-BinaryId-clause-faults
returns-in_ok-matcher-in-BinaryId-clause-faults c =
    let added = c.in_ok-matcher-in-BinaryId.ensures.faults in
    rw c.in-BinaryId.is (expected _ _ _ _ _ (rw added.1 at c.has_binary_id-is_some.ensures) added.2)

pub returns-in_ok-matcher-in-Group-clause-faults : goal.returns-in_ok-matcher-in-Group-clause-faults
returns-in_ok-matcher-in-Group-clause-faults c =
    let added = c.in_ok-matcher-in-Group.ensures.faults in
    rw c.in-Group.is (expected _ _ _ _ _ (rw added.1 at c.matches-is_some.ensures.some) added.2)

pub returns-in-Feature-clause-faults : goal.returns-in-Feature-clause-faults
returns-in-Feature-clause-faults c = rw c.in-Feature.is c.featured_of.ensures.faults
