use Rattle.std.proofs.Common.{◌≡◌, ◌∙◌, [], arith, ap, map, unwrap_or}
use Rattle.std.proofs.lemmas.Grind.{common_steps}
use Rattle.std.specs.Map.{lookup}
use Rattle.indexmap.specs.Entry.{map_with_value}
use Rattle.indexmap.specs.IndexMap.{get, insert_entry}
use Rattle.guppy_feature_demands.specs.DemandViews.{numbered_view}
use Rattle.guppy_feature_nodes.specs.GroupViews.{entry_view, group_view}
use Rattle.guppy_feature_nodes.specs.Groups.{grown, joins_line}
use Rattle.guppy_feature_nodes.specs.Joining.{JoinedValue, Key, join_key, key_eq}
use Rattle.guppy_feature_nodes.specs.KeyViews.{same_key}
use Rattle.guppy_feature_nodes.specs.declared.groups.Group.{Group}
use Rattle.guppy_feature_nodes.proofs.EntryFacts.{found_seen, insert_seen, lookup_seen}
use Rattle.guppy_feature_nodes.proofs.groups.push_demand.Goals as goal

pub returns : goal.returns
returns c =
    let d = numbered_view c.args.demand in
    let key = c.joining-key.result in
    let old = c.args.groups.now.map in
    let seen = map entry_view old.entries in
    let empty : Group = record { first = c.args.demand; lines = c.new.result } in
    let group = c.push_line.new.group in
    let none : JoinedValue = record { head = d; lines = [] } in
    let empty_is : group_view empty ≡ none = ap (λ ls. record { head = d; lines = ls }) c.new.ensures.items in
    let start : group_view c.or_insert-group.result.now ≡ unwrap_or (lookup (key_eq (join_key d)) seen) none = ap group_view (c.or_insert-group.ensures.value ∙ ap (λ o. unwrap_or o empty) c.in_ok-groups.ensures.value) ∙ found_seen (get same_key old key) empty ∙ (λ i. unwrap_or (lookup_seen key old.entries i) (empty_is i)) ∙ ap (λ (k : Key). unwrap_or (lookup (key_eq k) seen) none) c.joining-key.ensures in
    let value : group_view group ≡ grown (lookup (key_eq (join_key d)) seen) d = c.in_ok-push_line.ensures ∙ ap (λ g. joins_line g d.line) start in
    let added : map entry_view (map_with_value c.in_ok-groups.field-0 group).entries ≡ insert_entry key_eq seen (join_key d) (grown (lookup (key_eq (join_key d)) seen) d) = ap (map entry_view) (c.in_ok-groups.ensures.update.1 group) ∙ insert_seen key group old.entries ∙ (λ i. insert_entry key_eq seen (c.joining-key.ensures i) (value i)) in
    grind (arith, common_steps, added)
