use Rattle.std.proofs.Common.{List, ◌≡◌, ◌∙◌, ap, sym, subst, refl, Ok, Some, length, slice_get, ◌<◌, map, string_bytes}
use Rattle.std.proofs.lemmas.Option.{slice_get_read}
use Rattle.semver.specs.Identifiers.{comparator_view}
use Rattle.semver.specs.Parse.{req_of}
use Rattle.workspace_record.specs.Records.{Link}
use Rattle.guppy_package_table.proofs.Places.{same_read}
use Rattle.guppy_package_table.specs.LinkRows.{name_in_rust}
use Rattle.guppy_package_table.specs.Tables.{TableValue}
use Rattle.guppy_package_table.proofs.table.PackageTable.link_details.Goals as goal

pub of-requires-clause-read : goal.of-requires-clause-read
of-requires-clause-read c =
    let same = sym (c.links.ensures ∙ ap (λ (t : TableValue). t.links) (sym c.self.view_is)) in
    let read = subst (λ (ls : List Link). map (λ l. req_of l.requirement) ls ≡ map (λ r. Ok (map comparator_view r.comparators.items)) c.self.inside.indices.requirements.items) same c.self.invariant.1.requirements in
    same_read (λ l. req_of l.requirement) (λ r. Ok (map comparator_view r.comparators.items)) _ _ c.args.number c.index-links-number.result c.index-requirement.result.now read
    (subst (λ ls. c.args.number < length ls) (sym c.links.ensures) c.requires) c.index-links-number.is c.index-requirement.ensures

pub of-requires-clause-resolved : goal.of-requires-clause-resolved
of-requires-clause-resolved c =
    let same = sym (c.links.ensures ∙ ap (λ (t : TableValue). t.links) (sym c.self.view_is)) in
    let named = subst (λ (ls : List Link). map string_bytes c.self.inside.indices.rust_names.items ≡ map (λ l. name_in_rust l.name) ls) same c.self.invariant.1.rust_names in
    c.as_str-rust_name.ensures.value
    ∙ sym (same_read (λ l. name_in_rust l.name) string_bytes _ _ c.args.number c.index-links-number.result c.index.result.now (sym named)
    (subst (λ ls. c.args.number < length ls) (sym c.links.ensures) c.requires) c.index-links-number.is c.index.ensures)

pub returns : goal.returns
returns c =
    let links = c.links.result.now in
    let within : c.args.number < length links = subst (λ ls. c.args.number < length ls) (sym c.links.ensures) c.requires in
    ap (λ ls. slice_get ls c.args.number) (sym c.links.ensures) ∙ slice_get_read links (length links) c.args.number c.index-links-number.result refl within c.index-links-number.is ∙ ap Some (sym c.of.ensures)
