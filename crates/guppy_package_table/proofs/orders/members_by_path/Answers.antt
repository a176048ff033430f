use Rattle.std.proofs.Common.{◌≡◌, ◌∙◌, ◌<◌, All, length, map, subst, sym, ap, IsPermutation, IsSorted, Ok, rules}
use Rattle.std.specs.Ordering.{is_lt}
use Rattle.std.specs.declared.alloc.AllocError.{AllocError}
use Rattle.std.proofs.lemmas.Cmp.{on_total}
use Rattle.std.proofs.lemmas.Fn.{always_returns_same}
use Rattle.std.proofs.lemmas.Iterator.{YieldsList-from_map, YieldsList-from_slice, items_from_collect}
use Rattle.std.proofs.lemmas.List.Sorted.{All-permutation, IsPermutation-map, ranks_by}
use Rattle.guppy_package_rules.specs.Paths.{path_cmp, path_cmp_total}
use Rattle.guppy_package_table.specs.Members.{member_places, order_by, path_at, AreByPath}
use Rattle.guppy_package_table.proofs.ApartFacts.{paths_apart}
use Rattle.guppy_package_table.proofs.OrderFacts.{ascending_from_sorted, sorted_places}
use Rattle.guppy_package_table.proofs.orders.members_by_path.Goals as goal

pub returns : goal.returns
returns c =
    let t = c.args.table.now in
    let members = c.in_ok-members.members.items in
    let sorted = c.sort_unstable_by.new.self.items in
    let facts = c.sort_unstable_by.ensures in
    let by_path : IsSorted (λ a b. path_cmp a.0.now b.0.now) sorted = facts.sorted (λ a b. is_lt (path_cmp a.0.now b.0.now)) (ranks_by path_cmp_total (λ m. m.0.now)) (always_returns_same _ _ _ (λ a r next called. (search rules, search rules))) in
    let paths = All-permutation (λ m. m.0.now ≡ path_at t m.1) members sorted facts.permutation c.in_ok-members.ensures.paths in
    let places = map (λ m. m.1) sorted in
    let order : IsSorted (order_by path_cmp (path_at t)) places = sorted_places path_cmp (path_at t) (λ m. m.0.now) (λ m. m.1) sorted paths by_path in
    let moved : IsPermutation (member_places t) places = subst (λ xs. IsPermutation xs places) (c.in_ok-members.ensures.places ∙ c.members.ensures.value) (IsPermutation-map (λ m. m.1) members sorted facts.permutation) in
    let known = All-permutation (λ v. v < length t.packages) (member_places t) places moved (subst (All (λ v. v < length t.packages)) c.members.ensures.value c.members.ensures.within) in
    let found = items_from_collect {E = AllocError} (Ok c.in_ok-places.places) c.in_ok-places.ensures.ran (YieldsList-from_map _ (λ m. m.1) (YieldsList-from_slice c.deref.result.now cc) c.map.ensures.closure (λ x r q k. search rules)) ∙ ap (map (λ m. m.1)) c.deref.ensures.value in
    record { ordered = subst (AreByPath t) (sym found) (ascending_from_sorted (on_total (path_at t) path_cmp_total) (member_places t) places moved order (paths_apart t c.requires), known) }
