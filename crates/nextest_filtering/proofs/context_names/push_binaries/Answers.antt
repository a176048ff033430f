use Rattle.std.proofs.Common.{List, ◌≡◌, ◌++◌, ◌∙◌, ap}
use Rattle.list_facts.proofs.Lists.{flat_more}
use Rattle.workspace_record.specs.Records.{Package, Target, Text}
use Rattle.guppy_package_parts.specs.BuildTargets.{id_of}
use Rattle.guppy_package_parts.specs.BuildTargetViews.{target_view}
use Rattle.nextest_filtering.specs.Contexts.{binary_kind, named_binary}
use Rattle.nextest_filtering.proofs.context_names.push_binaries.Goals as goal

pub loop-target-preserved : goal.loop-target-preserved
loop-target-preserved c =
    let named : Text → Target → List (Text × Text) = λ n t. named_binary n t.name (binary_kind (id_of t.kind t.name)) in
    let name = c.args.row.now.name in
    let found = c.in_ok-binary.ensures ∙ ap (λ n. named n (target_view c.of.result)) (c.as_str.ensures.value ∙ ap (λ (r : Package). r.name) c.row.view_is) ∙ ap (named name) c.of.ensures in
    let targets : c.deref-target-items.result.now ≡ c.args.row.now.targets = c.deref-target-items.ensures.value ∙ ap (λ (r : Package). r.targets) c.row.view_is in
    let within = rw targets at c.loop-target-test.true in
    let at = rw targets at c.target-item.is in
    flat_more (named name) c.args.binaries.now.items c.loop-target.binaries.items c.push_some.new.binaries.items c.target-item.result c.args.row.now.targets c.loop-target.target-index _ within at (c.in_ok-push_some.ensures ∙ ap (λ bs. c.loop-target.binaries.items ++ bs) found) c.loop-target.invariant
