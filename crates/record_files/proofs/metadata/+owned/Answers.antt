use Rattle.std.proofs.Common.{◌≡◌, ◌+◌, get_or, drop, map, sym, ap, ◌∙◌, arith, take_all, string_bytes}
use Rattle.json.specs.Value.{members_view as tree_members}
use Rattle.serde_json.specs.Data.{put}
use Rattle.serde_json.specs.View.{items_of, members_view}
use Rattle.serde_json.proofs.Views.{members_view-insert_entry}
use Rattle.record_files.specs.Trees.{seen, members_data}
use Rattle.record_files.proofs.Trees.{seen_each, goes_in}
use Rattle.record_files.proofs.metadata.+owned.Goals as goal

pub owned_items-returns : goal.owned_items-returns
owned_items-returns t c =
    let vs = c.args.values.now.items in
    ap items_of c.loop-value.invariant ∙ ap (λ xs. items_of (map seen xs)) (take_all c.loop-value.value-index vs (omega arith)) ∙ sym (seen_each vs)

pub owned_members-loop-member-preserved : goal.owned_members-loop-member-preserved
owned_members-loop-member-preserved t c =
    let l = c.loop-member in
    let ms = c.args.members.now.items in
    let m = c.member-item.result in
    let found = members_view l.found.entries in
    let here = c.member-item.is ∙ ap (λ all. get_or all l.member-index m) c.deref-member-items.ensures.value in
    let named : string_bytes c.in_ok-name.name ≡ m.0.now = c.in_ok-name.ensures.ok in
    let went_in : members_view c.insert.new.self.entries ≡ put m.0.now (seen m.1) found =
    ap members_view c.in_ok-insert.ensures.entries ∙ members_view-insert_entry l.found.entries c.in_ok-name.name c.in_ok-owned.field-0 ∙ rw (named, c.in_ok-owned.ensures) in
    ap (members_data (tree_members (drop (l.member-index + 1) ms))) went_in ∙ sym (goes_in ms l.member-index m found (omega arith) here) ∙ l.invariant
