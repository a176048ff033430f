use Rattle.std.proofs.Common.{List, find, option_map, ◌≡◌, ◌∙◌, ap, map, sym, subst, refl, Ok, Some, length, slice_get, ◌<◌}
use Rattle.std.proofs.lemmas.List.{map-id}
use Rattle.std.proofs.lemmas.Option.{slice_get_read}
use Rattle.std.specs.Str.{bytes_eq}
use Rattle.list_facts.proofs.Lists.{map-map}
use Rattle.semver.specs.Identifiers.{parts_of}
use Rattle.semver.specs.Parse.{version_parts}
use Rattle.workspace_record.specs.Records.{Package, Text, WorkspaceDetails}
use Rattle.guppy_package_table.specs.PackageDetailsViews.{row_of}
use Rattle.guppy_package_table.proofs.Places.{found_among, same_read}
use Rattle.guppy_package_table.specs.Tables.{TableValue, ids_of, place_among}
use Rattle.guppy_package_table.specs.declared.indices.SharedRows.{SharedRows}
use Rattle.guppy_package_table.proofs.table.PackageTable.details.Goals as goal

pub of-requires : goal.of-requires
of-requires c =
    let shared = sym c.as_ref-shared.ensures in
    let kept = c.as_ref-shared.result.now in
    let rows = sym c.packages.ensures in
    let versions = subst (λ (ps : List Package). map (λ p. version_parts p.version) ps ≡ map (λ v. Ok (parts_of v)) kept.indices.versions.items) rows (subst (λ (s : SharedRows). map (λ p. version_parts p.version) s.rows.value.packages ≡ map (λ v. Ok (parts_of v)) s.indices.versions.items) shared c.self.invariant.0.versions) in
    let within = subst (λ (ps : List Package). c.args.place < length ps) rows (subst (λ (s : SharedRows). c.args.place < length s.rows.value.packages) shared (subst (λ (t : TableValue). c.args.place < length t.packages) (sym c.self.view_is) c.requires)) in
    same_read (λ p. version_parts p.version) (λ v. Ok (parts_of v)) _ _ c.args.place c.index-packages-place.result c.index-version.result.now versions within c.index-packages-place.is c.index-version.ensures

pub returns-clause-path : goal.returns-clause-path
returns-clause-path c =
    let place = c.args.place in
    let shared = sym c.as_ref-shared.ensures in
    let kept = c.as_ref-shared.result.now in
    let rows = c.packages.result.now in
    let members = c.workspace.result.now.members in
    let row = c.index-packages-place.result in
    let number = c.index-number.result.now in
    let ids : List Text = map (λ m. m.package_id) members in
    let within : place < length rows = subst (λ (ps : List Package). place < length ps) (sym c.packages.ensures) (subst (λ (s : SharedRows). place < length s.rows.value.packages) shared (subst (λ (t : TableValue). place < length t.packages) (sym c.self.view_is) c.requires)) in
    let numbers : kept.indices.members.numbers.items ≡ map (place_among ids) (ids_of rows) = subst (λ (ps : List Package). kept.indices.members.numbers.items ≡ map (place_among ids) (ids_of ps)) (sym c.packages.ensures) (subst (λ (w : WorkspaceDetails). kept.indices.members.numbers.items ≡ map (place_among (map (λ m. m.package_id) w.members)) (ids_of kept.rows.value.packages)) (sym c.workspace.ensures) (subst (λ (s : SharedRows). s.indices.members.numbers.items ≡ map (place_among (map (λ m. m.package_id) s.rows.value.workspace.members)) (ids_of s.rows.value.packages)) shared c.self.invariant.0.members.numbers)) in
    let all : map (λ p. place_among ids p.id) rows ≡ map (λ n. n) kept.indices.members.numbers.items = sym (map-id kept.indices.members.numbers.items ∙ numbers ∙ map-map (place_among ids) (λ p. p.id) rows) in
    let is : place_among ids row.id ≡ number = same_read (λ p. place_among ids p.id) (λ n. n) rows kept.indices.members.numbers.items place row number all within c.index-packages-place.is c.index-number.ensures in
    let found : slice_get members number ≡ find (λ m. bytes_eq row.id m.package_id) members = ap (slice_get members) (sym is) ∙ found_among (bytes_eq row.id) (λ m. m.package_id) members in
    let same : find (λ m. bytes_eq row.id m.package_id) members ≡ find (λ m. bytes_eq (row_of c.of.result).id m.package_id) members = ap (λ (r : Package). find (λ m. bytes_eq r.id m.package_id) members) (sym c.of.ensures.row) in
    rw (← c.self.view_is) (c.of.ensures.path ∙ c.member_path.ensures ∙ ap (option_map (λ m. m.path)) (found ∙ same ∙ ap (λ (w : WorkspaceDetails). find (λ m. bytes_eq (row_of c.of.result).id m.package_id) w.members) c.workspace.ensures ∙ ap (λ (s : SharedRows). find (λ m. bytes_eq (row_of c.of.result).id m.package_id) s.rows.value.workspace.members) (sym shared)))

pub returns-clause-row : goal.returns-clause-row
returns-clause-row c =
    let shared = sym c.as_ref-shared.ensures in
    let rows = c.packages.result.now in
    let within : c.args.place < length rows = subst (λ (ps : List Package). c.args.place < length ps) (sym c.packages.ensures) (subst (λ (s : SharedRows). c.args.place < length s.rows.value.packages) shared (subst (λ (t : TableValue). c.args.place < length t.packages) (sym c.self.view_is) c.requires)) in
    rw (← c.self.view_is) (ap (λ (s : SharedRows). slice_get s.rows.value.packages c.args.place) shared ∙ ap (λ (ps : List Package). slice_get ps c.args.place) (sym c.packages.ensures) ∙ slice_get_read rows (length rows) c.args.place c.index-packages-place.result refl within c.index-packages-place.is ∙ ap Some (sym c.of.ensures.row))
