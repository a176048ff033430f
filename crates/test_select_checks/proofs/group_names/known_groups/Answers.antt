use Rattle.std.proofs.Common.{◌∙◌, ap}
use Rattle.workspace_record.specs.Records.{Workspace}
use Rattle.test_select_checks.proofs.GroupFacts.{are_groups}
use Rattle.test_select_checks.proofs.group_names.known_groups.Goals as goal

pub returns : goal.returns
returns c = record {
  groups = are_groups c.args.record.now c.in_ok-custom_groups.custom_groups c.deref.result.now (c.deref.ensures.value ∙ ap (λ (w : Workspace). w.groups) c.record.view_is) c.in_ok-custom_groups.ensures;
}
