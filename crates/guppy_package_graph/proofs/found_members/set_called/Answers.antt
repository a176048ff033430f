use Rattle.std.proofs.Common.{◌≡◌, ◌∙◌, ◌↔◌, Some, Contains, IsTrue, map, subst}
use Rattle.list_facts.proofs.Lists.{map-map}
use Rattle.numbered_graph.specs.Sets.{has}
use Rattle.workspace_record.specs.Records.{Text}
use Rattle.guppy_package_table.specs.Members.{member_called}
use Rattle.guppy_package_graph.proofs.PlaceFacts.{each_found, named, placed}
use Rattle.guppy_package_graph.proofs.found_members.set_called.Goals as goal

pub returns-clause-named : goal.returns-clause-named
returns-clause-named c = λ v.
    let place : Text → _ = member_called c.args.graph.now in
    let names = map (λ name. name.now) c.args.names.now in
    let found : map place names ≡ map Some c.in_ok-places.places.items = map-map place (λ name. name.now) c.args.names.now ∙ c.in_ok-places.ensures.found in
    let members : IsTrue (has c.in_ok-set.set v) ↔ Contains c.in_ok-places.places.items v = subst (λ xs. IsTrue (has c.in_ok-set.set v) ↔ Contains xs v) c.deref.ensures.value (c.in_ok-set.ensures.members v) in
    (λ h. named place v names c.in_ok-places.places.items found (members.0 h), λ h. members.1 (placed place v names c.in_ok-places.places.items found h))

pub returns-clause-known : goal.returns-clause-known
returns-clause-known c =
    let place : Text → _ = member_called c.args.graph.now in
    let names = map (λ name. name.now) c.args.names.now in
    each_found place names c.in_ok-places.places.items (map-map place (λ name. name.now) c.args.names.now ∙ c.in_ok-places.ensures.found)
