use Rattle.std.proofs.Common.{◌≡◌, ◌∙◌, ℕ, ◌<◌, Bool, List, [], All, ap, filter, length, map, slice_index_or, subst, sym}
use Rattle.std.proofs.lemmas.List.{length-map}
use Rattle.workspace_record.specs.Features.{FeatureValue}
use Rattle.workspace_record.specs.Records.{Text}
use Rattle.feature_account.specs.Accounts.{concluded_set}
use Rattle.feature_account_rules.specs.RuleList.{base_of}
use Rattle.numbered_graph.specs.Links.{AreWithin}
use Rattle.guppy_package_table.specs.Tables.{firm_flags, ids_of, links_among}
use Rattle.guppy_package_graph.proofs.PlaceFacts.{ok_more}
use Rattle.test_select_features.specs.DependencyOrders.{IsDependencyOrder}
use Rattle.test_select_features.specs.LinesOn.{links_on}
use Rattle.test_select_features.proofs.NumberingFacts.{within_on}
use Rattle.test_select_features.proofs.OrderFacts.{all_in_range, listed_so, order_of}
use Rattle.test_select_features.proofs.dependency_orders.dependency_order.Goals as goal

pub places_in_order-requires-clause-within : goal.places_in_order-requires-clause-within
places_in_order-requires-clause-within c =
    let g = c.args.graph.now in
    let links : c.in_ok-links.field-0.links.items ≡ links_among g.packages (links_on g c.args.features.now c.args.table.now) = rw c.in_ok-indexed.ensures at c.in_ok-links.ensures.links in
    subst (λ n. AreWithin n c.in_ok-links.field-0.links.items) (sym c.package_count.ensures.count)
    (subst (AreWithin (length g.packages)) (sym links) (within_on g c.args.features.now c.args.table.now c.link_rows-rows.ensures.kept))

pub ids_on-requires : goal.ids_on-requires
ids_on-requires c =
    let g = c.args.graph.now in
    let on = c.args.features.now in
    let those = links_on g on c.args.table.now in
    let apart = c.link_rows-rows.ensures.kept.ids_apart in
    let (xs, listed, order) = c.in_ok-places.ensures in
    let links : c.in_ok-links.field-0.links.items ≡ links_among g.packages those = rw c.in_ok-indexed.ensures at c.in_ok-links.ensures.links in
    let firm : c.deref.result.now ≡ firm_flags those = c.deref.ensures.value ∙ (rw c.in_ok-indexed.ensures at c.in_ok-links.ensures.firm) in
    let listing = listed_so g.packages apart those _ c.deref.result.now c.package_count.result xs links firm c.package_count.ensures.count listed in
    let count : length c.package_ids.result.now ≡ length g.packages = ap length c.package_ids.ensures.ids ∙ length-map g.packages (λ p. p.id) in
    subst (λ n. All (λ p. p < n) c.deref-2.result.now) (sym count)
    (subst (All (λ p. p < length g.packages)) (sym (c.deref-2.ensures.value ∙ order)) (all_in_range g.packages apart those on xs listing))

pub returns : goal.returns
returns c =
    let g = c.args.graph.now in
    let on = c.args.features.now in
    let those = links_on g on c.args.table.now in
    let apart = c.link_rows-rows.ensures.kept.ids_apart in
    let (xs, listed, order) = c.in_ok-places.ensures in
    let links : c.in_ok-links.field-0.links.items ≡ links_among g.packages those = rw c.in_ok-indexed.ensures at c.in_ok-links.ensures.links in
    let firm : c.deref.result.now ≡ firm_flags those = c.deref.ensures.value ∙ (rw c.in_ok-indexed.ensures at c.in_ok-links.ensures.firm) in
    let listing = listed_so g.packages apart those _ c.deref.result.now c.package_count.result xs links firm c.package_count.ensures.count listed in
    let is_on : List FeatureValue → Text → Bool = λ fs id. concluded_set fs (base_of id) in
    let at : List Text → ℕ → Text = λ ids p. slice_index_or ids p [] in
    record {
      order = ok_more c.ids_on.result (λ v h. subst (IsDependencyOrder g.packages those on) (sym (h
          ∙ ap (λ fs. filter (is_on fs) (map (at c.package_ids.result.now) c.deref-2.result.now)) c.in_ok-indexed.ensures
          ∙ ap (λ ids. filter (is_on on) (map (at ids) c.deref-2.result.now)) c.package_ids.ensures.ids
          ∙ ap (λ places. filter (is_on on) (map (at (ids_of g.packages)) places)) (c.deref-2.ensures.value ∙ order))) (order_of g.packages apart those on xs listing)) c.ids_on.ensures;
    }
