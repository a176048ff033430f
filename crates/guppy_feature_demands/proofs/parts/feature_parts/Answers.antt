use Rattle.std.proofs.Common.{◌∙◌, ap, map}
use Rattle.guppy_feature_demands.specs.EntryAtView.{entry_at_view}
use Rattle.guppy_feature_demands.specs.declared.package_at.PackageAt.{PackageAt}
use Rattle.guppy_feature_demands.proofs.EntriesFacts.{demanded, warned}
use Rattle.guppy_feature_demands.proofs.parts.feature_parts.Goals as goal

pub returns-clause-demands : goal.returns-clause-demands
returns-clause-demands c =
    demanded c.in_ok-nodes.nodes c.in_ok-table.table (map entry_at_view c.deref.result.now) (map (λ (at : PackageAt). at.row.now) c.args.packages.now) c.args.links.now _ c.in_ok-nodes.ensures.nodes c.in_ok-table.ensures.links (ap (map entry_at_view) c.deref.ensures.value ∙ c.in_ok-entries.ensures) c.in_ok-demands.ensures

pub returns-clause-warnings : goal.returns-clause-warnings
returns-clause-warnings c =
    warned c.in_ok-nodes.nodes c.in_ok-table.table (map entry_at_view c.deref-2.result.now) (map (λ (at : PackageAt). at.row.now) c.args.packages.now) c.args.links.now _ c.in_ok-nodes.ensures.nodes c.in_ok-table.ensures.links (ap (map entry_at_view) c.deref-2.ensures.value ∙ c.in_ok-entries.ensures) c.in_ok-warnings.ensures
