use Rattle.std.proofs.Common.{◌∙◌, ◌<◌, All, length, subst, IsPermutation, IsSorted, rules}
use Rattle.std.specs.Ordering.{is_lt}
use Rattle.std.proofs.lemmas.Cmp.{on_total}
use Rattle.std.proofs.lemmas.Fn.{always_returns_same}
use Rattle.std.proofs.lemmas.List.Sorted.{All-permutation, ranks_by}
use Rattle.list_facts.specs.Ascending.{text_cmp}
use Rattle.list_facts.proofs.Ascending.{text_total}
use Rattle.guppy_package_table.specs.Members.{member_places, order_by, name_at}
use Rattle.guppy_package_table.proofs.ApartFacts.{names_apart}
use Rattle.guppy_package_table.proofs.OrderFacts.{ascending_from_sorted}
use Rattle.guppy_package_table.proofs.orders.members_by_name.Goals as goal

pub returns : goal.returns
returns c =
    let t = c.args.table.now in
    let sorted = c.sort_unstable_by.new.self.items in
    let facts = c.sort_unstable_by.ensures in
    let order : IsSorted (order_by text_cmp (name_at t)) sorted = facts.sorted (λ u v. is_lt (text_cmp (name_at t u) (name_at t v))) (ranks_by text_total (name_at t)) (always_returns_same _ _ _ (λ a r next called. (search rules, search rules))) in
    let moved = subst (λ places. IsPermutation places sorted) (c.in_ok-places.ensures.items ∙ c.members.ensures.value) facts.permutation in
    let known = All-permutation (λ v. v < length t.packages) (member_places t) sorted moved (subst (All (λ v. v < length t.packages)) c.members.ensures.value c.members.ensures.within) in
    record { ordered = (ascending_from_sorted (on_total (name_at t) text_total) (member_places t) sorted moved order (names_apart t c.requires), known) }
