use Rattle.std.proofs.Common.{◌≡◌, ◌∙◌, ◌↔◌, Some, Contains, IsTrue, map, subst}
use Rattle.list_facts.proofs.Lists.{map-map}
use Rattle.numbered_graph.specs.Sets.{has}
use Rattle.workspace_record.specs.Records.{Text}
use Rattle.guppy_package_table.specs.Members.{member_at_path}
use Rattle.guppy_package_graph.proofs.PlaceFacts.{each_found, named, placed}
use Rattle.guppy_package_graph.proofs.found_members.set_at_paths.Goals as goal

pub returns-clause-named : goal.returns-clause-named
returns-clause-named c = λ v.
    let place : Text → _ = member_at_path c.args.graph.now in
    let paths = map (λ path. path.now) c.args.paths.now in
    let found : map place paths ≡ map Some c.in_ok-places.places.items = map-map place (λ path. path.now) c.args.paths.now ∙ c.in_ok-places.ensures.found in
    let members : IsTrue (has c.in_ok-set.set v) ↔ Contains c.in_ok-places.places.items v = subst (λ xs. IsTrue (has c.in_ok-set.set v) ↔ Contains xs v) c.deref.ensures.value (c.in_ok-set.ensures.members v) in
    (λ h. named place v paths c.in_ok-places.places.items found (members.0 h), λ h. members.1 (placed place v paths c.in_ok-places.places.items found h))

pub returns-clause-known : goal.returns-clause-known
returns-clause-known c =
    let place : Text → _ = member_at_path c.args.graph.now in
    let paths = map (λ path. path.now) c.args.paths.now in
    each_found place paths c.in_ok-places.places.items (map-map place (λ path. path.now) c.args.paths.now ∙ c.in_ok-places.ensures.found)
