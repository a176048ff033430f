-- The packages of a query's initials, among all packages of their graph.
use Rattle.std.proofs.Common.{◌≡◌, ◌↔◌, ℕ, ◌-◌, ◌<◌, Bool, true, List, AllPairs, Contains, IsTrue, Option, Some, None, filter, length, map, slice_get, refl, ap, ◌∙◌, arith}
use Rattle.std.specs.List.{range_with_len}
use Rattle.std.proofs.lemmas.Bool.{false≢true}
use Rattle.std.proofs.lemmas.List.FromFn.{get_or-range_with_len, length-range_with_len}
use Rattle.std.proofs.lemmas.List.Kept.{AllPairs-filter}
use Rattle.std.proofs.lemmas.Option.{slice_get_within}
use Rattle.list_facts.proofs.Membership.{Contains-filter, Contains-filter_cases}
use Rattle.numbered_graph.specs.Sets.{has}
use Rattle.workspace_record.specs.Records.{Package}
use Rattle.guppy_package_table.specs.Tables.{TableValue}
use Rattle.guppy_feature_views.specs.Labels.{labels_of}
use Rattle.guppy_feature_graph.specs.FeaturesFor.{HasInitial, has_row}
use Rattle.guppy_feature_graph.specs.Queries.{AreInitials, QueryValue}
use Rattle.guppy_feature_graph.specs.Sets.{SetValue}
use Rattle.guppy_feature_graph.proofs.ListFacts.{starts_with}

-- the numbers from 0 on ascend, and are those below their count
numbers_ascend : (n : ℕ) → AllPairs (λ u v. u < v) (range_with_len 0 n)
numbers_ascend n i j d before within =
    let size = length-range_with_len 0 n in
    let later : j < n = omega (arith, size, within) in
    let first = get_or-range_with_len 0 n i d (omega (arith, before, later)) in
    let second = get_or-range_with_len 0 n j d later in
    omega (arith, first, second, before)

number_there : (n v : ℕ) → v < n → Contains (range_with_len 0 n) v
number_there n v lt =
    let size = length-range_with_len 0 n in
    let at = get_or-range_with_len 0 n v v lt in
    (v, omega (arith, size, lt), omega (arith, at))

abbrev pub placed : TableValue → ℕ → TableValue × ℕ
placed t v = (t, v)

-- all packages of a graph, by their places
pub all_places : (t u : TableValue) (first : ℕ) → t ≡ u → first ≡ 0 → map (placed t) (range_with_len first (length t.packages - first)) ≡ map (placed u) (range_with_len 0 (length u.packages))
all_places t u first same is =
    let none : length u.packages - 0 ≡ length u.packages = omega arith in
    ap (λ (x : TableValue). map (placed x) (range_with_len first (length x.packages - first))) same ∙ ap (λ n. map (placed u) (range_with_len n (length u.packages - n))) is ∙ ap (λ n. map (placed u) (range_with_len 0 n)) none

-- the places of the packages that have a feature among the initials
abbrev pub initial_places : SetValue → TableValue → List ℕ
initial_places s t = filter (λ v. has_row s (slice_get t.packages v)) (range_with_len 0 (length t.packages))

module _ (q : QueryValue) (s : SetValue) (graph : s.graph ≡ q.graph) (members : (v : ℕ) → Contains q.initials v ↔ IsTrue (has s.included v)) where
  has_initial : (v : ℕ) → has_row s (slice_get q.graph.rows.packages v) ≡ true → HasInitial q v
  has_initial v h = by (slice_get q.graph.rows.packages v) refl h
    where
      by : (o : Option Package) → slice_get q.graph.rows.packages v ≡ o → has_row s o ≡ true → HasInitial q v
      by None is h = absurd (false≢true h)
      by (Some row) is h = record { row = row; is_row = is; among = (starts_with q s row.id (labels_of row) (has_row s (Some row)) graph members refl).0 h }

  initial_has : (v : ℕ) → HasInitial q v → has_row s (slice_get q.graph.rows.packages v) ≡ true
  initial_has v i = ap (has_row s) i.is_row ∙ (starts_with q s i.row.id (labels_of i.row) (has_row s (Some i.row)) graph members refl).1 i.among

  pub are_initial : AreInitials (HasInitial q) (initial_places s q.graph.rows)
  are_initial =
      let test : ℕ → Bool = λ v. has_row s (slice_get q.graph.rows.packages v) in
      let n = length q.graph.rows.packages in
      record {
        ascending = AllPairs-filter (λ u v. u < v) test (range_with_len 0 n) (numbers_ascend n);
        each = λ v. (
          λ h. has_initial v (Contains-filter_cases test (range_with_len 0 n) v h).1,
          λ i. Contains-filter test (range_with_len 0 n) v (number_there n v (slice_get_within q.graph.rows.packages v i.row i.is_row)) (initial_has v i),
        );
      }
