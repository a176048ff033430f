-- What a search by halving finds among features that ascend.
use Rattle.std.proofs.Common.{◌≡◌, ◌∙◌, ◌+◌, ⊎_elim, ℕ, true, false, List, Result, Ok, Err, is_ok, length, get_or, sym, ap, subst, refl, Contains, arith}
use Rattle.std.specs.declared.cmp.Ordering.{Ordering}
use Rattle.std.specs.declared.cmp.Ordering.TheVariants.{Less, Equal, Greater}
use Rattle.std.specs.List.Sorted.{IsBinarySearchResult, IsSearchInRange, IsSortedBy, IsStrictlySortedBy}
use Rattle.std.specs.Ordering.{is_eq, is_lt, ordering_reverse}
use Rattle.std.proofs.lemmas.Bool.{cases_lt, false_from_ne_true}
use Rattle.std.proofs.lemmas.List.Elements.{Contains-get_or}
use Rattle.std.proofs.lemmas.List.Sorted.{searchable_from_sorted}
use Rattle.std.proofs.lemmas.Map.Keys.{Less-from_sorted}
use Rattle.workspace_record.specs.Features.{FeatureValue, feature_cmp, feature_cmp_total, feature_ties, features_decide}
use Rattle.feature_account.specs.Accounts.{concluded_set}
use Rattle.feature_account.proofs.ConcludedFacts.{concluded_iff}
use Rattle.test_select_rules.proofs.FeatureOrder.{feature_exact}

not_after : (o p : Ordering) → o ≡ Less → p ≡ ordering_reverse o → is_lt p ≡ false
not_after o p e q = ap is_lt (q ∙ ap ordering_reverse e)

-- features that ascend are in order
in_order : (on : List FeatureValue) → IsStrictlySortedBy feature_cmp on → IsSortedBy (λ a b. is_lt (feature_cmp a b)) on
in_order on sorted k d from lt =
    let this = get_or on k d in
    let next = get_or on (k + 1) d in
    not_after (feature_cmp this next) (feature_cmp next this) (Less-from_sorted feature_cmp on k (k + 1) d sorted (omega arith) lt) (feature_cmp_total.antisymm next this)

is_tied : (o : Ordering) → is_eq o ≡ true → o ≡ Equal
is_tied Equal h = refl
is_tied Less h = absurd cc
is_tied Greater h = absurd cc

pub is_equal : (f : FeatureValue) → feature_cmp f f ≡ Equal
is_equal f = is_tied (feature_cmp f f) (sym (feature_ties f f) ∙ (features_decide f f).1 refl)

-- a place between the lesser and the greater ones is no feature's
none_between : (on : List FeatureValue) (f : FeatureValue) (i : ℕ) → IsStrictlySortedBy feature_cmp on → IsBinarySearchResult (λ y. feature_cmp y f) on (Err i) → Contains on f → ⊥
none_between on f i sorted h (k, lt, is) =
    let parts = h (searchable_from_sorted feature_cmp_total (λ x. x) on f (in_order on sorted)) in
    let equal : feature_cmp (get_or on k f) f ≡ Equal = subst (λ x. feature_cmp x f ≡ Equal) (sym is) (is_equal f) in
    ⊎_elim
    (λ less. let other : feature_cmp (get_or on k f) f ≡ Less = parts.0 k f (omega arith) less in absurd cc)
    (λ more. let other : feature_cmp (get_or on k f) f ≡ Greater = parts.1 k f more lt in absurd cc)
    (cases_lt k i)

-- a search finds a feature exactly where it is listed
pub found_by_halving : (on : List FeatureValue) (f : FeatureValue) (r : Result ℕ ℕ) → IsStrictlySortedBy feature_cmp on → IsSearchInRange r (length on) → IsBinarySearchResult (λ y. feature_cmp y f) on r → is_ok r ≡ concluded_set on f
found_by_halving on f (Ok i) sorted within h = sym ((concluded_iff on f).1 (subst (Contains on) (feature_exact (get_or on i f) f (h f)) (Contains-get_or on i f within)))
found_by_halving on f (Err i) sorted within h = sym (false_from_ne_true (concluded_set on f) (λ e. none_between on f i sorted h ((concluded_iff on f).0 e)))
