use Rattle.std.proofs.Common.{◌∙◌, sym, ap, is_some, Bor}
use Rattle.std.specs.Str.{bytes_eq}
use Rattle.indexmap.specs.IndexMap.{get_by, insert_entry}
use Rattle.workspace_record.specs.Records.{Package, Text}
use Rattle.workspace_record.proofs.PackageFacts.{known_package, new_package}
use Rattle.workspace_record.proofs.packages_by_id.add_package.Goals as goal

pub returns-in_ok-insert : goal.returns-in_ok-insert
returns-in_ok-insert c = λ rows finds.
    let q = c.args.row.now in
    let id_is = c.as_str-id.ensures.value ∙ ap (λ (p : Package). p.id) c.row.view_is in
    let unknown = ap (λ (id : Text). is_some (get_by (λ (k : Bor Text). bytes_eq id k.now) c.args.found.now)) (sym id_is) ∙ sym c.contains_key.ensures ∙ c.if-not-contains_key.true in
    new_package rows c.args.found.now finds q c.as_str-id.result c.insert.new.self unknown id_is (c.in_ok-insert.ensures.entries ∙ ap (insert_entry (λ (a b : Bor Text). bytes_eq a.now b.now) c.args.found.now.entries c.as_str-id.result) c.in_ok-package.ensures)

pub returns-else-not-contains_key : goal.returns-else-not-contains_key
returns-else-not-contains_key c = λ rows finds.
    let q = c.args.row.now in
    let id_is = c.as_str-id.ensures.value ∙ ap (λ (p : Package). p.id) c.row.view_is in
    let known = ap (λ (id : Text). is_some (get_by (λ (k : Bor Text). bytes_eq id k.now) c.args.found.now)) (sym id_is) ∙ sym c.contains_key.ensures ∙ c.if-not-contains_key.false in
    known_package rows c.args.found.now finds q known
