-- What a walk from packages reaches, by the ids of packages.
use Rattle.std.proofs.Common.{◌≡◌, ◌↔◌, sym, subst, ℕ, Bool, List, Contains, IsTrue}
use Rattle.list_facts.proofs.Quantifiers.{Any-from_Contains, Any_cases}
use Rattle.numbered_graph.specs.Paths.{IsReached, any_link}
use Rattle.numbered_graph.specs.Sets.{has}
use Rattle.workspace_record.specs.Records.{Text}
use Rattle.guppy_package_parts.specs.declared.dependency_direction.DependencyDirection.{DependencyDirection}
use Rattle.guppy_package_parts.specs.declared.dependency_direction.DependencyDirection.TheVariants.{Forward, Reverse}
use Rattle.guppy_package_table.specs.Tables.{TableValue, numbered_links}
use Rattle.guppy_package_graph.specs.Directions.{direction_of}
use Rattle.guppy_package_graph.specs.Finding.{IsAt, IsNamed}
use Rattle.guppy_package_graph.specs.Queries.{AreInitials, IsQueryOf, QueryValue}
use Rattle.guppy_package_graph.specs.Resolves.{IsReachOf}
use Rattle.guppy_package_graph.specs.SetValues.{SetValue}
use Rattle.nextest_filter_evaluation.specs.NameTests.{NameTest, Suits}
use Rattle.nextest_filtering.specs.Contexts.{ContextValue}
use Rattle.nextest_filtering.specs.ContextViews.{ArePicked, IsInSet}
use Rattle.nextest_filtering.specs.Meaning.{IsMatched, IsReachedOf, LeadsAlong}

-- a path joins the package with one of these
abbrev IsJoined : TableValue → List Text → DependencyDirection → Text → Type 0
IsJoined g starts d id = (b : Text) × Contains starts b × LeadsAlong d g b id

module _ (g : TableValue) (starts : List Text) (initials : List ℕ) (included : List Bool) (are : AreInitials (IsNamed g starts) initials) where
  named : (s : ℕ) → Contains initials s → (b : Text) × Contains starts b × IsAt g b s
  named s h = Any_cases (λ b. IsAt g b s) starts ((are.each s).0 h)

  among : (b : Text) (s : ℕ) → Contains starts b → IsAt g b s → Contains initials s
  among b s h at = (are.each s).1 (Any-from_Contains (λ x. IsAt g x s) starts b h at)

  in_reach : (d : DependencyDirection) → ((v : ℕ) → IsTrue (has included v) ↔ IsReached (direction_of d) (numbered_links g) any_link initials v) → (id : Text) → IsInSet (record { graph = g; included = included }) id ↔ IsJoined g starts d id
  in_reach Forward reach id = (
    λ h. let r = (reach h.place).0 h.is_in in let q = named r.start r.among in (q.0, q.1, record { from = r.start; to = h.place; is_from = q.2; is_to = h.is_place; path = r.leads }),
    λ (b, listed, l). record { place = l.to; is_place = l.is_to; is_in = (reach l.to).1 (record { start = l.from; among = among b l.from listed l.is_from; leads = l.path }) },
  )
  in_reach Reverse reach id = (
    λ h. let r = (reach h.place).0 h.is_in in let q = named r.start r.among in (q.0, q.1, record { from = h.place; to = r.start; is_from = h.is_place; is_to = q.2; path = r.leads }),
    λ (b, listed, l). record { place = l.from; is_place = l.is_from; is_in = (reach l.from).1 (record { start = l.to; among = among b l.to listed l.is_to; leads = l.path }) },
  )

joined_as : (g : TableValue) (d : DependencyDirection) (starts : List Text) (q : QueryValue) (s : SetValue) → IsQueryOf g d (IsNamed g starts) q → IsReachOf q s → (id : Text) → IsInSet s id ↔ IsJoined g starts d id
joined_as g d starts q s asked reach id =
    let base : IsInSet (record { graph = q.graph; included = s.included }) id ↔ IsJoined q.graph starts q.direction id =
    in_reach q.graph starts q.initials s.included (subst (λ (h : TableValue). AreInitials (IsNamed h starts) q.initials) (sym asked.graph) asked.initials) q.direction reach.members id in
    subst (λ (h : TableValue). IsInSet (record { graph = h; included = s.included }) id ↔ IsJoined g starts d id) (sym reach.graph)
    (subst (λ (h : TableValue). IsInSet (record { graph = q.graph; included = s.included }) id ↔ IsJoined h starts d id) asked.graph
    (subst (λ (e : DependencyDirection). IsInSet (record { graph = q.graph; included = s.included }) id ↔ IsJoined q.graph starts e id) asked.directed base))

-- what is picked out of the reach of a query is reached
pub reached_of : (cx : ContextValue) (d : DependencyDirection) (starts ids : List Text) (packages : List (Text × Text)) (q : QueryValue) (s : SetValue) → IsQueryOf cx.graph d (IsNamed cx.graph starts) q → IsReachOf q s → packages ≡ cx.packages → ArePicked (λ p. IsInSet s p.0) packages ids → (id : Text) → Contains ids id ↔ IsReachedOf cx (Contains starts) d id
reached_of cx d starts ids packages q s asked reach e picked id = (
  λ h. let p = (picked id).0 h in let j = (joined_as cx.graph d starts q s asked reach p.0.0).0 p.2 in
      record { found = p.0; listed = subst (λ xs. Contains xs p.0) e p.1; is_its = p.3; start = j.0; starts_there = j.1; leads = subst (LeadsAlong d cx.graph j.0) p.3 j.2 },
  λ r. (picked id).1 (r.found, subst (λ xs. Contains xs r.found) (sym e) r.listed, (joined_as cx.graph d starts q s asked reach r.found.0).1 (r.start, r.starts_there, subst (LeadsAlong d cx.graph r.start) (sym r.is_its) r.leads), r.is_its),
)

pub matched_of : (cx : ContextValue) (t : NameTest) (ids : List Text) (packages : List (Text × Text)) → packages ≡ cx.packages → ArePicked (λ p. Suits t p.1) packages ids → (id : Text) → Contains ids id ↔ IsMatched cx t id
matched_of cx t ids packages e picked id = (
  λ h. let p = (picked id).0 h in record { found = p.0; listed = subst (λ xs. Contains xs p.0) e p.1; suits = p.2; is_its = p.3 },
  λ m. (picked id).1 (m.found, subst (λ xs. Contains xs m.found) (sym e) m.listed, m.suits, m.is_its),
)
