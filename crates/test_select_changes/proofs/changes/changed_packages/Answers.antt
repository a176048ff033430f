use Rattle.std.proofs.Common.{IsTrue, map}
use Rattle.numbered_graph.specs.Sets.{has}
use Rattle.nextest_filter_matchers.specs.Matchers.{tokens_of}
use Rattle.test_select_changes.proofs.GraphFacts.{changes_by}
use Rattle.test_select_changes.proofs.changes.changed_packages.Goals as goal

pub returns : goal.returns
returns c =
    let set = c.args.packages.now in
    let globs = map tokens_of c.args.ignored.now in
    let paths = map (λ path. path.now) c.args.paths.now in
    record { changes = changes_by set.graph (λ v. IsTrue (has set.included v)) c.in_ok-folders.folders.items c.in_ok-folders.ensures.folders globs paths c.in_ok-changed.changed c.in_default.ensures (rw c.deref.ensures.value at c.in_ok-changed.ensures) }
