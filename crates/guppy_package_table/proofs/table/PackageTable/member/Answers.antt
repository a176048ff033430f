use Rattle.std.proofs.Common.{◌≡◌, ◌∙◌, ap, find, map, slice_get}
use Rattle.std.specs.List.{position_or_len}
use Rattle.std.specs.Str.{bytes_eq}
use Rattle.workspace_record.specs.Records.{WorkspaceDetails}
use Rattle.guppy_package_table.specs.Tables.{TableValue}
use Rattle.guppy_package_table.specs.declared.indices.SharedRows.{SharedRows}
use Rattle.guppy_package_table.proofs.Places.{found_among}
use Rattle.guppy_package_table.proofs.table.PackageTable.member.Goals as goal

pub returns : goal.returns
returns c =
    let is_it = bytes_eq c.args.id.now in
    let members = c.self.inside.shared.value.rows.value.workspace.members in
    let lent : c.deref.result.now ≡ members = c.deref.ensures.value ∙ ap (λ (w : WorkspaceDetails). w.members) (c.behind-shared.view_is ∙ c.workspace.ensures ∙ ap (λ (s : SharedRows). s.rows.value.workspace) c.as_ref-shared.ensures) in
    let number : c.place_of_id-number.result ≡ position_or_len is_it (map (λ m. m.package_id) members) = c.place_of_id-number.ensures ∙ ap (λ (s : SharedRows). position_or_len is_it s.indices.members.ids.keys) c.as_ref-shared.ensures ∙ ap (position_or_len is_it) c.self.invariant.0.members.ids in
    c.member_at.ensures ∙ (λ i. slice_get (lent i) (number i)) ∙ found_among is_it (λ m. m.package_id) members ∙ ap (λ (t : TableValue). find (λ m. is_it m.package_id) t.workspace.members) c.self.view_is
