-- The edges of a feature graph, joined from what is demanded between its nodes.
use Rattle.std.specs.Prelude.{◌≡◌, ℕ, Bool, not, nat_eq, List, [], ◌∷◌, All, map, filter}
use Rattle.std.specs.Ordering.{on, nat_cmp, ordering_then}
use Rattle.std.specs.List.{filter_map, list_any}
use Rattle.std.specs.declared.cmp.Ordering.{Ordering}
use Rattle.workspace_record.specs.Equality.{pair_eq, text_eq}
use Rattle.workspace_record.specs.Records.{Text}
use Rattle.guppy_package_parts.specs.SortedSets.{HoldsEach}
use Rattle.guppy_feature_demands.specs.Demands.{FormValue, FeatureToBase, NamedFeature, NamedFeatureDepColon, StrongSlash, WeakSlash, DependenciesSection, NumberedValue}
use Rattle.guppy_feature_demands.specs.Nodes.{first_of_each}

-- an ordered pair of nodes, and something of demands between them: a sort and a name
abbrev pub Key : Type 0
Key = (ℕ × ℕ) × (ℕ × Text)

abbrev pub key_eq : Key → Key → Bool
key_eq = pair_eq (pair_eq nat_eq nat_eq) (pair_eq nat_eq text_eq)

-- what joins in one edge of a pair: all that lead always; strong entries and lines; weak entries of one dependency
-- (from guppy's `FeatureEdge`)
abbrev pub join_sort : FormValue → ℕ × Text
join_sort FeatureToBase = (0, [])
join_sort NamedFeature = (0, [])
join_sort NamedFeatureDepColon = (0, [])
join_sort (StrongSlash name) = (1, [])
join_sort DependenciesSection = (1, [])
join_sort (WeakSlash name) = (2, name)

-- what others may give way to: what leads always, and strong entries of one dependency (from guppy's `FeatureEdge`)
abbrev pub weight : FormValue → ℕ × Text
weight FeatureToBase = (0, [])
weight NamedFeature = (0, [])
weight NamedFeatureDepColon = (0, [])
weight (StrongSlash name) = (1, name)
weight (WeakSlash name) = (2, name)
weight DependenciesSection = (3, [])

-- what is conditional gives way to what leads always, and a weak entry to a strong one of its dependency too
-- (from guppy's `FeatureEdge`)
abbrev pub gives_way_to : FormValue → List (ℕ × Text)
gives_way_to FeatureToBase = []
gives_way_to NamedFeature = []
gives_way_to NamedFeatureDepColon = []
gives_way_to (StrongSlash name) = (0, []) ∷ []
gives_way_to (WeakSlash name) = (0, []) ∷ (1, name) ∷ []
gives_way_to DependenciesSection = (0, []) ∷ []

abbrev pub ends_of : NumberedValue → ℕ × ℕ
ends_of d = (d.from, d.to)

abbrev pub join_key : NumberedValue → Key
join_key d = (ends_of d, join_sort d.form)

abbrev pub weight_key : NumberedValue → Key
weight_key d = (ends_of d, weight d.form)

-- two demands join in one edge
abbrev pub same_edge : NumberedValue → NumberedValue → Bool
same_edge = on join_key key_eq

-- some demand has this weight
abbrev pub is_outweighed : List NumberedValue → Key → Bool
is_outweighed ds key = list_any (key_eq key) (map weight_key ds)

-- a demand of the same pair has a weight to which this one gives way
abbrev pub is_dropped : List NumberedValue → NumberedValue → Bool
is_dropped ds d = list_any (λ w. is_outweighed ds (ends_of d, w)) (gives_way_to d.form)

-- the first demand of each edge, without those that give way (from guppy's `FeatureEdge`)
abbrev pub heads_of : List NumberedValue → List NumberedValue
heads_of ds = filter (λ d. not (is_dropped ds d)) (first_of_each same_edge ds)

-- the lines of the demands that join so (from guppy's `FeatureEdge`)
abbrev pub lines_joined : List NumberedValue → Key → List (ℕ × ℕ)
lines_joined ds key = filter_map (λ d. d.line) (filter (λ d. key_eq key (join_key d)) ds)

abbrev pub place_eq : ℕ × ℕ → ℕ × ℕ → Bool
place_eq = pair_eq nat_eq nat_eq

-- by link, and then by line
abbrev pub place_cmp : ℕ × ℕ → ℕ × ℕ → Ordering
place_cmp a b = ordering_then (nat_cmp a.0 b.0) (nat_cmp a.1 b.1)

-- an edge: the first demand that joins in it, and the lines behind it
pub record JoinedValue : Type 0 where
  pub head : NumberedValue
  pub lines : List (ℕ × ℕ)

-- its lines are those of the demands that join in it, each once, in ascending order
abbrev pub HasLines : List NumberedValue → JoinedValue → Type 0
HasLines ds e = HoldsEach place_eq place_cmp (lines_joined ds (join_key e.head)) e.lines

-- the edges that are joined from the demands, in the order of their first demands (from guppy's `FeatureEdge`)
pub record AreJoined (ds : List NumberedValue) (edges : List JoinedValue) : Type 0 where
  pub heads : map (λ e. e.head) edges ≡ heads_of ds
  pub lines : All (HasLines ds) edges
