use Rattle.std.proofs.Common.{◌∙◌, ap, rules}
use Rattle.std.specs.List.{list_any}
use Rattle.std.specs.Str.{bytes_eq}
use Rattle.workspace_record.specs.Records.{Member, Workspace}
use Rattle.workspace_record.proofs.record_index.RecordIndex.of.Goals as goal

pub invariant_of-result : goal.invariant_of-result
invariant_of-result c =
    let members = c.deref-3.ensures.value ∙ ap (λ w. w.workspace.members) c.record-inside.view_is ∙ ap (λ (w : Workspace). w.workspace.members) c.record.view_is in
    record {
      packages_are = search rules;
      members_are = λ x. c.in-Ok.ensures (λ (m : Member). m.package_id) (λ y t h. search rules) x ∙ ap (list_any (λ (m : Member). bytes_eq x m.package_id)) members;
      links_are = search rules;
    }
