use Rattle.std.proofs.Common.{◌∙◌, ◌↔◌, ℕ, List, Contains, IfOk, IsTrue, ap, map, subst}
use Rattle.numbered_graph.specs.Sets.{has}
use Rattle.guppy_package_table.specs.Tables.{TableValue, ids_of, place_among}
use Rattle.guppy_package_graph.proofs.found_packages.set_of_members.Goals as goal

pub returns-clause-members : goal.returns-clause-members
returns-clause-members c =
    let members : TableValue → List ℕ = λ t. map (λ m. place_among (ids_of t.packages) m.package_id) t.workspace.members in
    subst (λ xs. IfOk c.of.result (λ set. (v : ℕ) → IsTrue (has set v) ↔ Contains xs v)) (c.members.ensures.value ∙ ap members c.table.ensures) c.of.ensures.members
