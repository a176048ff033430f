use Rattle.std.proofs.Common.{◌∙◌, ap}
use Rattle.workspace_record.specs.Records.{Package}
use Rattle.workspace_record.specs.Packages.{has_feature}
use Rattle.workspace_record.proofs.package_index.PackageIndex.has_feature.Goals as goal

pub returns : goal.returns
returns c = record {
  answer = c.contains.ensures ∙ c.self.invariant.named c.args.name.now ∙ ap (λ (p : Package). has_feature p c.args.name.now) c.self.view_is;
}
