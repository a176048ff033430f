use Rattle.std.proofs.Common.{◌≡◌, ◌∙◌, ap, refl, subst, sym}
use Rattle.guppy_package_rules.specs.Readings.{AreRequirementsOf}
use Rattle.guppy_package_table.specs.TableLinks.{links_of}
use Rattle.guppy_package_table.specs.Tables.{AreKnownEnds, ids_of}
use Rattle.guppy_package_table.specs.declared.indices.SharedRows.{SharedRows}
use Rattle.guppy_package_table.proofs.TableFacts.{IsListed}
use Rattle.guppy_package_table.proofs.table.PackageTable.over.Goals as goal

pub link_indices-requires-clause-read : goal.link_indices-requires-clause-read
link_indices-requires-clause-read c =
    let own = c.links.ensures ∙ ap (λ (s : SharedRows). s.rows.value.links) c.as_ref-rows.ensures in
    subst (λ ls. AreRequirementsOf ls c.args.requirements.items) (sym (c.rows.ensures ∙ ap (λ ls. links_of ls c.args.links) own)) c.requires.read

pub link_indices-requires-clause-ids : goal.link_indices-requires-clause-ids
link_indices-requires-clause-ids c =
    subst (λ (s : SharedRows). s.indices.ids.keys ≡ ids_of s.rows.value.packages) (sym c.as_ref-rows.ensures) c.requires.indexed.ids

pub link_indices-requires-clause-ends : goal.link_indices-requires-clause-ends
link_indices-requires-clause-ends c =
    let own = c.links.ensures ∙ ap (λ (s : SharedRows). s.rows.value.links) c.as_ref-rows.ensures in
    let all = c.rows.ensures ∙ ap (λ ls. links_of ls c.args.links) own in
    subst (λ (s : SharedRows). AreKnownEnds (ids_of s.rows.value.packages) c.rows.result.now) (sym c.as_ref-rows.ensures) (subst (AreKnownEnds (ids_of c.args.shared.value.rows.value.packages)) (sym all) c.requires.ends)

pub returns : goal.returns
returns c =
    let own = c.links.ensures ∙ ap (λ (s : SharedRows). s.rows.value.links) c.as_ref-rows.ensures in
    let all = c.rows.ensures ∙ ap (λ ls. links_of ls c.args.links) own in
    let listing = c.in_ok-indices.indices.listing.items in
    record {
      rows = refl;
      link_rows = refl;
      workspace_row = refl;
      listed = subst (λ (s : SharedRows). IsListed s.rows.value.packages (links_of c.args.shared.value.rows.value.links c.args.links) listing) c.as_ref-rows.ensures (subst (λ ls. IsListed c.as_ref-rows.result.now.rows.value.packages ls listing) all c.in_ok-indices.ensures.listing);
    }
