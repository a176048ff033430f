-- Of elements that are the same the first: the nodes are distinct, and each has its number.
use Rattle.std.proofs.Common.{◌≡◌, ◌≢◌, ℕ, ◌<◌, Bool, true, false, cond, not, List, [], ◌∷◌, AllPairs, Contains, length, get_or, filter, refl, sym, subst, ap, ⊎_elim, arith}
use Rattle.std.specs.List.{AllByRecursion, IsDistinct, flat_map}
use Rattle.std.proofs.lemmas.Bool.{cases_lt}
use Rattle.std.proofs.lemmas.List.Elements.{Contains-get_or}
use Rattle.std.proofs.lemmas.List.Sums.{prefix_len_stops}
use Rattle.std.proofs.lemmas.Map.Made.{AllPairs-from_IsDistinct}
use Rattle.list_facts.proofs.Membership.{Contains-cons_cases, Contains-first, Contains-rest, Contains-filter}
use Rattle.list_facts.proofs.Quantifiers.{list_any_cases}
use Rattle.workspace_record.specs.Equality.{DecidesEquality}
use Rattle.workspace_record.specs.Features.{FeatureValue, feature_eq, features_decide}
use Rattle.workspace_record.specs.Records.{Package}
use Rattle.guppy_package_table.proofs.Places.{ends_before}
use Rattle.guppy_feature_demands.specs.Nodes.{base_of, features_of, first_of_each, is_node, nodes_of, number_of}

module _ {T : Type 0} (E : T → T → Bool) where
  still : (P : T → Type 0) (f : T → Bool) (xs : List T) → AllByRecursion P xs → AllByRecursion P (filter f xs)
  still P f [] h = h
  still P f (x ∷ xs) h = by (f x) (still P f xs h.1)
    where
      by : (b : Bool) → AllByRecursion P (filter f xs) → AllByRecursion P (cond b (x ∷ filter f xs) (filter f xs))
      by true more = (h.0, more)
      by false more = more

  others : (k : T) (xs : List T) → AllByRecursion (λ y. E k y ≡ false) (filter (λ y. not (E k y)) xs)
  others k [] = tt
  others k (x ∷ xs) = by (E k x) refl (others k xs)
    where
      left : List T
      left = filter (λ y. not (E k y)) xs

      by : (b : Bool) → E k x ≡ b → AllByRecursion (λ y. E k y ≡ false) left → AllByRecursion (λ y. E k y ≡ false) (cond (not b) (x ∷ left) left)
      by true e more = more
      by false e more = (e, more)

  still_distinct : (f : T → Bool) (xs : List T) → IsDistinct E xs → IsDistinct E (filter f xs)
  unfolding IsDistinct
  still_distinct f [] h = h
  still_distinct f (x ∷ xs) h = by (f x) (still_distinct f xs h.1)
    where
      by : (b : Bool) → IsDistinct E (filter f xs) → IsDistinct E (cond b (x ∷ filter f xs) (filter f xs))
      by true more = (still (λ y. E x y ≡ false) f xs h.0, more)
      by false more = more

  pub firsts_distinct : (xs : List T) → IsDistinct E (first_of_each E xs)
  unfolding IsDistinct
  firsts_distinct [] = tt
  firsts_distinct (x ∷ xs) = (others x (first_of_each E xs), still_distinct (λ y. not (E x y)) (first_of_each E xs) (firsts_distinct xs))

  -- each element is among the firsts
  pub first_of_each-has : DecidesEquality E → (xs : List T) (x : T) → Contains xs x → Contains (first_of_each E xs) x
  first_of_each-has decides [] x h = h
  first_of_each-has decides (y ∷ ys) x h =
      let left = first_of_each E ys in
      ⊎_elim (λ e. subst (Contains (y ∷ filter (λ z. not (E y z)) left)) e (Contains-first y (filter (λ z. not (E y z)) left))) (λ r. by (E y x) refl (first_of_each-has decides ys x r)) (Contains-cons_cases y ys x h)
    where
      by : (b : Bool) → E y x ≡ b → Contains (first_of_each E ys) x → Contains (y ∷ filter (λ z. not (E y z)) (first_of_each E ys)) x
      by true e r = subst (Contains (y ∷ filter (λ z. not (E y z)) (first_of_each E ys))) ((decides y x).0 e) (Contains-first y (filter (λ z. not (E y z)) (first_of_each E ys)))
      by false e r = Contains-rest y (filter (λ z. not (E y z)) (first_of_each E ys)) x (Contains-filter (λ z. not (E y z)) (first_of_each E ys) x r (ap not e))

not_not : (b : Bool) → not b ≡ false → b ≡ true
not_not true e = refl
not_not false e = sym e

-- a feature that is there has a number
pub number_known : (nodes : List FeatureValue) (f : FeatureValue) → Contains nodes f → number_of nodes f < length nodes
number_known nodes f (k, lt, is) = ends_before (feature_eq f) nodes k f lt ((features_decide f (get_or nodes k f)).1 (sym is))

pub node_known : (nodes : List FeatureValue) (f : FeatureValue) → is_node nodes f ≡ true → number_of nodes f < length nodes
node_known nodes f h =
    let found = list_any_cases (feature_eq f) nodes h in
    number_known nodes f (subst (Contains nodes) (sym ((features_decide f found.0).0 found.2)) found.1)

-- at its number the feature stands
pub at_number : (nodes : List FeatureValue) (f : FeatureValue) → number_of nodes f < length nodes → get_or nodes (number_of nodes f) (base_of []) ≡ f
at_number nodes f lt =
    sym ((features_decide f (get_or nodes (number_of nodes f) (base_of []))).0 (not_not _ (prefix_len_stops (λ x. not (feature_eq f x)) nodes (base_of []) lt)))

-- the nodes differ from each other
pub nodes_differ : (packages : List Package) → AllPairs (λ x y. x ≢ y) (nodes_of packages)
nodes_differ packages = AllPairs-from_IsDistinct features_decide (nodes_of packages) (firsts_distinct feature_eq (flat_map features_of packages))

-- so the number of a node's feature is the node
pub number_at : (nodes : List FeatureValue) → AllPairs (λ x y. x ≢ y) nodes → (v : ℕ) → v < length nodes → number_of nodes (get_or nodes v (base_of [])) ≡ v
number_at nodes differ v lt =
    let f = get_or nodes v (base_of []) in
    let k = number_of nodes f in
    let known = number_known nodes f (Contains-get_or nodes v (base_of []) lt) in
    let same = at_number nodes f known in
    ⊎_elim (λ before. absurd (differ k v (base_of []) before lt same)) (λ here. ⊎_elim (λ after. absurd (differ v k (base_of []) after known (sym same))) (λ there. omega (arith, here, there)) (cases_lt v k)) (cases_lt k v)
