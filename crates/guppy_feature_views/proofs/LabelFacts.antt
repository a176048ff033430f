-- Labels in the order of the code, found among others.
use Rattle.std.proofs.Common.{◌≡◌, ◌↔◌, ℕ, suc, ◌<◌, Bool, true, List, [], ◌∷◌, Contains, IsTrue, length, map, get_or, sym, subst, ap, arith, ◌∙◌}
use Rattle.std.specs.List.{AllByRecursion, list_any}
use Rattle.std.specs.List.Sorted.{IsStrictlySortedBy}
use Rattle.std.specs.Ordering.{is_eq, on}
use Rattle.std.specs.declared.cmp.Ordering.{Ordering}
use Rattle.std.specs.declared.cmp.Ordering.TheVariants.{Less, Equal}
use Rattle.std.proofs.lemmas.List.{get_or-map, length-map}
use Rattle.std.proofs.lemmas.Map.Keys.{Less-from_sorted}
use Rattle.list_facts.specs.Ascending.{IsAscendingOf}
use Rattle.list_facts.proofs.Ascending.{one_ascending}
use Rattle.list_facts.proofs.Membership.{Contains-map, Contains-map_cases}
use Rattle.list_facts.proofs.Quantifiers.{Any_cases, list_any-from_Contains, list_any_cases}
use Rattle.workspace_record.specs.Features.{LabelValue, label_cmp, label_cmp_total, label_eq, labels_decide}
use Rattle.guppy_package_parts.specs.SortedSets.{HoldsEach}
use Rattle.guppy_feature_demands.specs.LabelViews.{label_ties, label_view}
use Rattle.guppy_feature_demands.specs.declared.feature_label.FeatureLabel.{FeatureLabel}
use Rattle.guppy_feature_demands.specs.declared.feature_label.FeatureLabel.TheVariants as code
use Rattle.guppy_feature_views.specs.Labels.{AreLabels, Ascend}

-- an element is found exactly where what is seen of it is seen
pub found_by : {X Y : Type 0} (same : X → X → Bool) (view : X → Y) → ((x y : X) → (same x y ≡ true) ↔ (view x ≡ view y)) → (xs : List X) (x : X) (b : Bool) → b ≡ list_any (λ y. same y x) xs → IsTrue b ↔ Contains (map view xs) (view x)
found_by same view agrees xs x b is = (
  λ h. let found = list_any_cases (λ y. same y x) xs (sym is ∙ h) in
      subst (Contains (map view xs)) ((agrees found.0 x).0 found.2) (Contains-map view xs found.0 found.1),
  λ h. let found = Contains-map_cases view xs (view x) h in is ∙ list_any-from_Contains (λ y. same y x) xs found.0 found.1 ((agrees found.0 x).1 found.2),
)

abbrev pub same_label : FeatureLabel → FeatureLabel → Bool
same_label = on label_view label_eq

abbrev pub label_order : FeatureLabel → FeatureLabel → Ordering
label_order = on label_view label_cmp

pub labels_agree : (x y : FeatureLabel) → (same_label x y ≡ true) ↔ (label_view x ≡ label_view y)
labels_agree x y = labels_decide (label_view x) (label_view y)

-- what ascends in the code's order
pub labels_ascend : (xs : List FeatureLabel) → IsStrictlySortedBy label_order xs → Ascend (map label_view xs)
labels_ascend xs up i j d before within =
    let here : j < length xs = subst (λ n. j < n) (length-map xs label_view) within in
    let first : i < length xs = omega (arith, before, here) in
    let at_i = get_or-map label_view xs i code.Base d first in
    let at_j = get_or-map label_view xs j code.Base d here in
    subst (λ a. label_cmp a (get_or (map label_view xs) j d) ≡ Less) (sym at_i) (subst (λ b. label_cmp (label_view (get_or xs i code.Base)) b ≡ Less) (sym at_j) (Less-from_sorted label_order xs i j code.Base up before here))

-- the labels that were put in order
pub labels_held : (elements sorted : List FeatureLabel) → HoldsEach same_label label_order elements sorted → AreLabels (Contains (map label_view elements)) (map label_view sorted)
labels_held elements sorted holds = record {
  ascending = labels_ascend sorted holds.ascending;
  each = λ l. (
    λ h. let found = Contains-map_cases label_view sorted l h in subst (Contains (map label_view elements)) found.2 (Contains-map label_view elements found.0 (holds.among found.0 found.1)),
    λ h.
        let found = Contains-map_cases label_view elements l h in
        let kept = Any_cases (λ y. same_label found.0 y ≡ true) sorted (holds.each found.0 found.1) in
        subst (Contains (map label_view sorted)) (sym ((labels_agree found.0 kept.0).0 kept.2) ∙ found.2) (Contains-map label_view sorted kept.0 kept.1),
  );
}

below : {X : Type 0} (P : X → Type 0) (xs : List X) → ((j : ℕ) (d : X) → j < length xs → P (get_or xs j d)) → AllByRecursion P xs
below P [] each = tt
below P (x ∷ xs) each = (each 0 x (omega arith), below P xs (λ j d within. each (suc j) d (omega (arith, within))))

strictly : (labels : List LabelValue) → Ascend labels → IsStrictlySortedBy label_cmp labels
unfolding IsStrictlySortedBy
strictly [] up = tt
strictly (l ∷ ls) up = (
  below (λ m. label_cmp l m ≡ Less) ls (λ j d within. up 0 (suc j) d (omega arith) (omega (arith, within))),
  strictly ls (λ i j d before within. up (suc i) (suc j) d (omega (arith, before)) (omega (arith, within))),
)

as_sorted : (elements labels : List LabelValue) → AreLabels (Contains elements) labels → IsAscendingOf label_cmp elements labels
as_sorted elements labels are = record {
  members = are.each;
  ascending = strictly labels are.ascending;
}

label_exact : (l m : LabelValue) → label_cmp l m ≡ Equal → l ≡ m
label_exact l m tie = (labels_decide l m).0 (label_ties l m ∙ ap is_eq tie)

-- labels in order that are the same are one list
pub same_labels : (labels others : List LabelValue) → Ascend labels → AreLabels (Contains labels) others → others ≡ labels
same_labels labels others up are =
    let own : AreLabels (Contains labels) labels = record {
      ascending = up;
      each = λ l. (λ h. h, λ h. h);
    } in
    one_ascending label_cmp_total label_exact labels others labels (as_sorted labels others are) (as_sorted labels labels own)
