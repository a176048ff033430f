-- Contexts over what the members need.
use Rattle.std.proofs.Common.{◌≡◌, ◌∙◌, ◌↔◌, refl, subst, ℕ, Bool, List, IsTrue, Some, Option, Result, Ok, Err, IfOk}
use Rattle.std.specs.Option.{option_or}
use Rattle.numbered_graph.specs.declared.direction.Direction.TheVariants as numbered
use Rattle.numbered_graph.specs.Paths.{IsReached, any_link}
use Rattle.numbered_graph.specs.Sets.{has}
use Rattle.workspace_record.specs.Records.{Package, Workspace}
use Rattle.guppy_package_parts.specs.declared.dependency_direction.DependencyDirection.{DependencyDirection}
use Rattle.guppy_package_parts.specs.declared.dependency_direction.DependencyDirection.TheVariants.{Forward}
use Rattle.guppy_package_table.specs.Tables.{TableValue, numbered_links}
use Rattle.guppy_package_graph.specs.Directions.{direction_of}
use Rattle.guppy_package_graph.specs.Queries.{AreInitials, IsQueryOf, QueryValue}
use Rattle.guppy_package_graph.specs.Resolves.{IsReachOf}
use Rattle.guppy_package_graph.specs.SetValues.{SetValue}
use Rattle.guppy_package_graph.specs.Workspaces.{IsMemberPlace}
use Rattle.nextest_filtering.specs.Contexts.{AreRowsAt, ContextValue, IsContextOf}
use Rattle.test_select_checks.specs.Contexts.{HasNamesOf, IsDeclaredGraph, IsNeeded}

-- what a walk from the members reaches is needed
needed_by : (g : TableValue) (initials : List ℕ) (included : List Bool) → AreInitials (IsMemberPlace g) initials → ((v : ℕ) → IsTrue (has included v) ↔ IsReached numbered.Forward (numbered_links g) any_link initials v) → (v : ℕ) → IsTrue (has included v) ↔ IsNeeded g v
needed_by g initials included are reach v = (
  λ h. let r = (reach v).0 h in record { member = r.start; is_member = (are.each r.start).0 r.among; path = r.leads },
  λ n. (reach v).1 (record { start = n.member; among = (are.each n.member).1 n.is_member; leads = n.path }),
)

rows_alike : (g h : TableValue) (P Q : ℕ → Type 0) (rows : List Package) → g ≡ h → ((v : ℕ) → P v ↔ Q v) → AreRowsAt g P rows → AreRowsAt h Q rows
rows_alike g h P Q rows same alike are =
    subst (λ (k : TableValue). AreRowsAt k Q rows) same (λ p. (
      λ i. let r = (are p).0 i in (r.0, (alike r.0).0 r.1, r.2),
      λ r. (are p).1 (r.0, (alike r.0).1 r.1, r.2),
    ))

-- the context of what such a walk reaches
pub context_needed : (g links : TableValue) (q : QueryValue) (s : SetValue) (cx : ContextValue) → IsQueryOf g Forward (IsMemberPlace g) q → IsReachOf q s → IsContextOf links s.graph (λ v. IsTrue (has s.included v)) cx → IsContextOf links g (IsNeeded g) cx
context_needed g links q s cx asked reach is =
    let over : (v : ℕ) → IsTrue (has s.included v) ↔ IsReached (direction_of q.direction) (numbered_links g) any_link q.initials v =
    subst (λ (h : TableValue). (v : ℕ) → IsTrue (has s.included v) ↔ IsReached (direction_of q.direction) (numbered_links h) any_link q.initials v) asked.graph reach.members in
    let forward : (v : ℕ) → IsTrue (has s.included v) ↔ IsReached numbered.Forward (numbered_links g) any_link q.initials v =
    subst (λ (e : DependencyDirection). (v : ℕ) → IsTrue (has s.included v) ↔ IsReached (direction_of e) (numbered_links g) any_link q.initials v) asked.directed over in
    record {
      graph = is.graph;
      rows = is.rows;
      are_rows = rows_alike s.graph g _ _ is.rows (reach.graph ∙ asked.graph) (needed_by g q.initials s.included asked.initials forward) is.are_rows;
      named = is.named;
      built = is.built;
      featured = is.featured;
    }

-- a context over what the members need has the record's names
pub names_of_record : (w : Workspace) (g links : TableValue) (cx : ContextValue) → IsDeclaredGraph w g → IsContextOf links g (IsNeeded g) cx → HasNamesOf w cx
names_of_record w g links cx declared is = record {
  declared = g;
  is_declared = declared;
  needed = record { graph = refl; rows = is.rows; are_rows = is.are_rows; named = is.named; built = is.built; featured = is.featured };
}

pub first_of_two : {X : Type 0} (a b : Option X) (x : X) → a ≡ Some x → option_or a b ≡ Some x
first_of_two a b x e = rw e refl

pub if_ok_so : {X E : Type 0} (P Q : X → Type 0) (r : Result X E) → ((x : X) → P x → Q x) → IfOk r P → IfOk r Q
if_ok_so P Q (Ok x) so h = so x h
if_ok_so P Q (Err e) so h = h
