-- The nodes of a feature graph are the features that its packages have.
use Rattle.std.proofs.Common.{◌≡◌, ◌<◌, length, List, [], ◌++◌, map, flat_map, Contains, refl, subst, ⊎_elim}
use Rattle.std.proofs.lemmas.List.Elements.{Contains-get_or}
use Rattle.list_facts.proofs.Membership.{Contains-append_left, Contains-append_right, Contains-append_cases, Contains-cons_cases, Contains-first, Contains-rest, Contains-map, Contains-map_cases, Contains-flat_map, Contains-flat_map_cases}
use Rattle.workspace_record.specs.Records.{FeatureEntry, Package}
use Rattle.workspace_record.specs.Features.{LabelValue, Base, Named, Dep, FeatureValue, feature_eq, features_decide}
use Rattle.feature_account_rules.specs.IsRule.{HasFeature}
use Rattle.guppy_feature_demands.specs.Nodes.{base_of, dep_of, named_of, features_of, nodes_of, number_of}
use Rattle.guppy_feature_nodes.proofs.DistinctFacts.{at_number, first_of_each-has}
use Rattle.guppy_feature_nodes.proofs.EdgeFacts.{first_of_each-among}

-- the package has what the label names
abbrev pub HasLabel : Package → LabelValue → Type 0
HasLabel p Base = Unit {0}
HasLabel p (Named name) = HasFeature p name
HasLabel p (Dep name) = Contains p.optional name

abbrev pub feature_of : Package → LabelValue → FeatureValue
feature_of p label = record { package_id = p.id; label = label }

abbrev named_features : Package → List FeatureValue
named_features p = map (λ (f : FeatureEntry). named_of p.id f.name) p.features

abbrev optional_features : Package → List FeatureValue
optional_features p = map (dep_of p.id) p.optional

-- what a package has is among its features
own_feature : (p : Package) (label : LabelValue) → HasLabel p label → Contains (features_of p) (feature_of p label)
own_feature p Base h = Contains-first (base_of p.id) (named_features p ++ optional_features p)
own_feature p (Named name) h =
    Contains-rest (base_of p.id) (named_features p ++ optional_features p) (named_of p.id name) (Contains-append_left (named_features p) (optional_features p) (named_of p.id name) (Contains-map (λ (f : FeatureEntry). named_of p.id f.name) p.features (record { name = name; enables = h.0 }) h.1))
own_feature p (Dep name) h =
    Contains-rest (base_of p.id) (named_features p ++ optional_features p) (dep_of p.id name) (Contains-append_right (named_features p) (optional_features p) (dep_of p.id name) (Contains-map (dep_of p.id) p.optional name h))

abbrev IsOwn : Package → FeatureValue → Type 0
IsOwn p f = (p.id ≡ f.package_id) × HasLabel p f.label

-- a package has what is among its features
own_label : (p : Package) (f : FeatureValue) → Contains (features_of p) f → IsOwn p f
own_label p f h =
    ⊎_elim (λ e. subst (IsOwn p) e (refl, tt)) (λ r. ⊎_elim
    (λ n. let found = Contains-map_cases (λ (e : FeatureEntry). named_of p.id e.name) p.features f n in subst (IsOwn p) found.2 (refl, (found.0.enables, found.1)))
    (λ n. let found = Contains-map_cases (dep_of p.id) p.optional f n in subst (IsOwn p) found.2 (refl, found.1))
    (Contains-append_cases (named_features p) (optional_features p) f r))
    (Contains-cons_cases (base_of p.id) (named_features p ++ optional_features p) f h)

module _ (packages : List Package) where
  -- what a package has is a node
  pub node_of : (p : Package) → Contains packages p → (label : LabelValue) → HasLabel p label → Contains (nodes_of packages) (feature_of p label)
  node_of p listed label h =
      first_of_each-has feature_eq features_decide (flat_map features_of packages) (feature_of p label) (Contains-flat_map features_of packages p (feature_of p label) listed (own_feature p label h))

  -- a node is what a package has
  pub node_cases : (f : FeatureValue) → Contains (nodes_of packages) f → (p : Package) × Contains packages p × (p.id ≡ f.package_id) × HasLabel p f.label
  node_cases f h =
      let found = Contains-flat_map_cases features_of packages f (first_of_each-among feature_eq (flat_map features_of packages) f h) in
      let own = own_label found.0 f found.2 in
      (found.0, found.1, own.0, own.1)

-- what has a number is a node
pub numbered_node : (nodes : List FeatureValue) (f : FeatureValue) → number_of nodes f < length nodes → Contains nodes f
numbered_node nodes f lt = subst (Contains nodes) (at_number nodes f lt) (Contains-get_or nodes (number_of nodes f) (base_of []) lt)
