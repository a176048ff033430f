use Rattle.std.proofs.Common.{◌∙◌, ap}
use Rattle.workspace_record.specs.Records.{Workspace}
use Rattle.workspace_record.specs.Packages.{package_of}
use Rattle.workspace_record.proofs.PackageFacts.{package_found}
use Rattle.workspace_record.proofs.record_index.RecordIndex.package_of.Goals as goal

pub returns : goal.returns
returns c = record {
  value = c.get.ensures.value ∙ package_found c.self.inside.record.now.packages c.self.inside.packages c.self.invariant.packages_are c.args.id.now ∙ ap (λ (w : Workspace). package_of w c.args.id.now) c.self.view_is;
}
