use Rattle.std.proofs.Common.{◌∙◌, ap}
use Rattle.guppy_package_table.specs.Tables.{TableValue}
use Rattle.guppy_package_graph.specs.PackagesViews.{all_left}
use Rattle.guppy_package_graph.specs.SetValues.{listed}
use Rattle.test_select_changes.proofs.FolderFacts.{begins, collected, collects, left_as, same_graph}
use Rattle.test_select_changes.proofs.folders.unordered_folders.Goals as goal

pub loop-package-init : goal.loop-package-init
loop-package-init c =
    let items = c.packages-package-items in
    begins _ (listed c.args.packages.now) _ _ (ap all_left c.into_iter-package-iterator.ensures.into_iter_gives ∙ left_as items.result _ _ items.ensures.graph items.ensures.listed) c.new-folders.ensures.items

pub add_folder-requires : goal.add_folder-requires
add_folder-requires c =
    c.root-root.ensures.root ∙ ap (λ (g : TableValue). g.workspace.root) (c.workspace.ensures.graph ∙ c.graph.ensures.graph ∙ same_graph _ _ _ _ _ _ _ c.loop-package.invariant c.in-Some.ensures.steps)

pub loop-package-preserved : goal.loop-package-preserved
loop-package-preserved c = collects _ _ _ _ _ _ _ _ c.loop-package.invariant c.in-Some.ensures.steps c.in_ok-add_folder.ensures

pub returns : goal.returns
returns c = collected _ _ _ _ _ c.loop-package.invariant c.in-None.ensures.steps.0 c.packages-package-items.ensures.listing.each
