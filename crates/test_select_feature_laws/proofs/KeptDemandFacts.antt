-- Which demands are kept: those between two different nodes.
use Rattle.std.proofs.Common.{◌≡◌, ℕ, ◌<◌, length, get_or, true, false, ◌&&◌, ◌==◌, not, nat_lt, List, [], Contains, map, sym, ap, ◌∙◌, ⊎_elim, arith}
use Rattle.std.proofs.lemmas.Bool.{and_from, and_parts, cases_Bool, false≢true}
use Rattle.std.proofs.lemmas.Bool.Decides.{nat_tests}
use Rattle.list_facts.proofs.Membership.{Contains-filter, Contains-filter_cases, Contains-map, Contains-map_cases}
use Rattle.workspace_record.specs.Features.{FeatureValue, feature_eq, features_decide}
use Rattle.guppy_feature_demands.specs.Demands.{DemandValue, NumberedValue, is_between_nodes, kept_demands, with_numbers}
use Rattle.guppy_feature_demands.specs.Nodes.{base_of, number_of}
use Rattle.guppy_feature_nodes.proofs.DistinctFacts.{at_number, number_known}
use Rattle.test_select_feature_laws.proofs.NodeFacts.{numbered_node}

below : (a b : ℕ) → nat_lt a b ≡ true → a < b
below a b h = grind (arith, nat_tests, h)

is_below : (a b : ℕ) → a < b → nat_lt a b ≡ true
is_below a b h = grind (arith, nat_tests, h)

equal : (a b : ℕ) → (a == b) ≡ true → a ≡ b
equal a b h = grind (arith, nat_tests, h)

is_equal : (a b : ℕ) → a ≡ b → (a == b) ≡ true
is_equal a b h = grind (arith, nat_tests, h)

-- features of one number are one
pub same_number : (nodes : List FeatureValue) (f g : FeatureValue) → Contains nodes f → Contains nodes g → number_of nodes f ≡ number_of nodes g → f ≡ g
same_number nodes f g hf hg same =
    sym (at_number nodes f (number_known nodes f hf)) ∙ ap (λ n. get_at n) same ∙ at_number nodes g (number_known nodes g hg)
  where
    get_at : ℕ → FeatureValue
    get_at n = get_or nodes n (base_of [])

module _ (nodes : List FeatureValue) (demands : List DemandValue) where
  -- a demand between two different nodes
  pub record IsKept (d : DemandValue) : Type 0 where
    pub demanded : Contains demands d
    pub from : Contains nodes d.from
    pub to : Contains nodes d.to
    pub differ : feature_eq d.from d.to ≡ false

  -- it is kept
  pub kept : (d : DemandValue) → IsKept d → Contains (kept_demands nodes demands) (with_numbers nodes d)
  kept d k =
      let a = number_of nodes d.from in
      let b = number_of nodes d.to in
      let apart : not (a == b) ≡ true = ⊎_elim (λ t. absurd (false≢true (sym k.differ ∙ (features_decide d.from d.to).1 (same_number nodes d.from d.to k.from k.to (equal a b t))))) (λ f. ap not f) (cases_Bool (a == b)) in
      let within = and_from (nat_lt a (length nodes)) (nat_lt b (length nodes)) (is_below a (length nodes) (number_known nodes d.from k.from)) (is_below b (length nodes) (number_known nodes d.to k.to)) in
      Contains-filter (is_between_nodes (length nodes)) (map (with_numbers nodes) demands) (with_numbers nodes d) (Contains-map (with_numbers nodes) demands d k.demanded) (and_from (nat_lt a (length nodes) && nat_lt b (length nodes)) (not (a == b)) within apart)

  -- each that is kept is one
  pub kept_cases : (n : NumberedValue) → Contains (kept_demands nodes demands) n → (d : DemandValue) × IsKept d × (with_numbers nodes d ≡ n)
  kept_cases n h =
      let k = Contains-filter_cases (is_between_nodes (length nodes)) (map (with_numbers nodes) demands) n h in
      let (d, hd, is) = Contains-map_cases (with_numbers nodes) demands n k.0 in
      let a = number_of nodes d.from in
      let b = number_of nodes d.to in
      let pass : is_between_nodes (length nodes) (with_numbers nodes d) ≡ true = ap (is_between_nodes (length nodes)) is ∙ k.1 in
      let both = and_parts (nat_lt a (length nodes) && nat_lt b (length nodes)) (not (a == b)) pass in
      let within = and_parts (nat_lt a (length nodes)) (nat_lt b (length nodes)) both.0 in
      let differ : feature_eq d.from d.to ≡ false = ⊎_elim (λ t. absurd (false≢true (ap not (sym (is_equal a b (ap (number_of nodes) ((features_decide d.from d.to).0 t)))) ∙ both.1))) (λ f. f) (cases_Bool (feature_eq d.from d.to)) in
      (d, record { demanded = hd; from = numbered_node nodes d.from (below a (length nodes) within.0); to = numbered_node nodes d.to (below b (length nodes) within.1); differ = differ }, is)
