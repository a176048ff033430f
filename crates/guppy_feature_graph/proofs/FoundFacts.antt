-- Features found by their ids, and those that are not there.
use Rattle.std.proofs.Common.{◌≡◌, ◌↔◌, ℕ, ◌<◌, ◌≤◌, length, Bool, true, false, not, List, [], ◌∷◌, All, Contains, map, refl, sym, subst, arith}
use Rattle.std.proofs.lemmas.List.Elements.{All-cons, All-contains, All-head, All-nil, All-tail}
use Rattle.std.proofs.lemmas.List.Folds.{list_any_at}
use Rattle.std.proofs.lemmas.List.Sums.{prefix_len-le-length, prefix_len_stops}
use Rattle.list_facts.proofs.Membership.{Contains-map, Contains-map_cases}
use Rattle.list_facts.proofs.Quantifiers.{Any-from_Contains, Any_cases}
use Rattle.workspace_record.specs.Features.{FeatureValue, feature_eq}
use Rattle.guppy_feature_demands.specs.Nodes.{base_of, is_node, number_of}
use Rattle.list_facts.proofs.Quantifiers.{list_any_from_position_or_len}
use Rattle.guppy_feature_nodes.specs.Graphs.{FeatureGraphValue}
use Rattle.guppy_feature_graph.specs.Finding.{IsNamed, IsNumber, IsUnknown}

at_end : (a b : ℕ) → a ≤ b → b ≤ a → a ≡ b
at_end a b le ge = omega (arith, le, ge)

-- a feature whose number is past the end is not there
not_there : (nodes : List FeatureValue) (f : FeatureValue) → length nodes ≤ number_of nodes f → is_node nodes f ≡ false
not_there nodes f h = list_any_from_position_or_len (feature_eq f) nodes (at_end (number_of nodes f) (length nodes) (prefix_len-le-length (λ x. not (feature_eq f x)) nodes) h)

not_not : (b : Bool) → not b ≡ false → b ≡ true
not_not true e = refl
not_not false e = sym e

-- a feature with a number is there
pub known : (nodes : List FeatureValue) (f : FeatureValue) → number_of nodes f < length nodes → is_node nodes f ≡ true
known nodes f lt = list_any_at (feature_eq f) nodes (number_of nodes f) (base_of []) lt (not_not _ (prefix_len_stops (λ x. not (feature_eq f x)) nodes (base_of []) lt))

pub is_unknown : (g : FeatureGraphValue) (f : FeatureValue) (n count : ℕ) → n ≡ number_of g.nodes f → count ≡ length g.nodes → count ≤ n → IsUnknown g f
is_unknown g f n count number counted h = not_there g.nodes f (subst (λ k. length g.nodes ≤ k) number (subst (λ k. k ≤ n) counted h))

-- features whose numbers all lie within the graph are there
pub all_known : (g : FeatureGraphValue) (fs : List FeatureValue) (numbers : List ℕ) → numbers ≡ map (number_of g.nodes) fs → All (λ n. n < length g.nodes) numbers → All (λ f. is_node g.nodes f ≡ true) fs
all_known g [] numbers are within = All-nil (λ f. is_node g.nodes f ≡ true)
all_known g (f ∷ fs) numbers are within =
    let all = subst (All (λ n. n < length g.nodes)) are within in
    All-cons (λ f. is_node g.nodes f ≡ true) f fs (known g.nodes f (All-head (λ n. n < length g.nodes) (number_of g.nodes f) (map (number_of g.nodes) fs) all)) (all_known g fs (map (number_of g.nodes) fs) refl (All-tail (λ n. n < length g.nodes) (number_of g.nodes f) (map (number_of g.nodes) fs) all))

-- the numbers of features are the nodes that they name
pub named : (g : FeatureGraphValue) (fs : List FeatureValue) (numbers : List ℕ) → numbers ≡ map (number_of g.nodes) fs → All (λ n. n < length g.nodes) numbers → (v : ℕ) → Contains numbers v ↔ IsNamed g fs v
named g fs numbers are within v = (there, back)
  where
    there : Contains numbers v → IsNamed g fs v
    there h =
        let found = Contains-map_cases (number_of g.nodes) fs v (subst (λ xs. Contains xs v) are h) in
        Any-from_Contains (λ f. IsNumber g f v) fs found.0 found.1 (sym found.2, All-contains (λ n. n < length g.nodes) numbers v within h)

    back : IsNamed g fs v → Contains numbers v
    back h =
        let found = Any_cases (λ f. IsNumber g f v) fs h in
        subst (λ xs. Contains xs v) (sym are) (subst (Contains (map (number_of g.nodes) fs)) (sym found.2.0) (Contains-map (number_of g.nodes) fs found.0 found.1))
