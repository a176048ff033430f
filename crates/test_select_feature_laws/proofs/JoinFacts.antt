-- Each demand that is kept stands behind an edge, or gives way to others of the same ends.
use Rattle.std.proofs.Common.{◌≡◌, ℕ, zero, suc, true, false, not, List, [], ◌∷◌, Contains, Option, Some, None, filter, map, refl, sym, subst, ap, ◌∙◌, ◌⊎◌, inl, inr, ⊎_elim}
use Rattle.std.specs.List.{cons_option, filter_map}
use Rattle.std.proofs.lemmas.Bool.{cases_Bool}
use Rattle.std.proofs.lemmas.List.Elements.{All-contains}
use Rattle.list_facts.proofs.Membership.{Contains-none, Contains-first, Contains-rest, Contains-cons_cases, Contains-filter, Contains-filter_cases, Contains-map, Contains-map_cases}
use Rattle.list_facts.proofs.Quantifiers.{Any_cases, list_any_cases}
use Rattle.workspace_record.specs.Equality.{pairs_decide}
use Rattle.std.specs.Cmp.{unsigned_Decides}
use Rattle.workspace_record.specs.Records.{Text}
use Rattle.guppy_feature_demands.specs.Demands.{FormValue, FeatureToBase, NamedFeature, NamedFeatureDepColon, StrongSlash, WeakSlash, DependenciesSection, NumberedValue}
use Rattle.guppy_feature_demands.specs.Nodes.{first_of_each}
use Rattle.guppy_feature_nodes.specs.Joining.{AreJoined, HasLines, JoinedValue, Key, ends_of, gives_way_to, is_dropped, is_outweighed, join_key, join_sort, key_eq, place_eq, same_edge, weight_key}
use Rattle.guppy_feature_nodes.specs.HeadViews.{same_edge_equivalence}
use Rattle.guppy_feature_nodes.specs.KeyViews.{keys_decide}
use Rattle.guppy_feature_nodes.proofs.EdgeFacts.{filter_map-cases, first_of_each-among}
use Rattle.test_select_feature_laws.proofs.FirstFacts.{first_for}

-- what an element gives is given
given_more : {Y : Type 0} (o : Option Y) (ys : List Y) (y : Y) → Contains ys y → Contains (cons_option o ys) y
given_more None ys y h = h
given_more (Some z) ys y h = Contains-rest z ys y h

pub filter_map-has : {X Y : Type 0} (f : X → Option Y) (xs : List X) (x : X) (y : Y) → Contains xs x → f x ≡ Some y → Contains (filter_map f xs) y
filter_map-has f [] x y h is = absurd (Contains-none x h)
filter_map-has f (z ∷ xs) x y h is =
    ⊎_elim (λ e. subst (λ o. Contains (cons_option o (filter_map f xs)) y) (sym (ap f e ∙ is)) (Contains-first y (filter_map f xs))) (λ r. given_more (f z) (filter_map f xs) y (filter_map-has f xs x y r is)) (Contains-cons_cases z xs x h)

-- what gives way does so by what joins it
abbrev way_of : ℕ × Text → List (ℕ × Text)
way_of (zero, name) = []
way_of (suc zero, name) = (0, []) ∷ []
way_of (suc (suc n), name) = (0, []) ∷ (1, name) ∷ []

by_sort : (form : FormValue) → way_of (join_sort form) ≡ gives_way_to form
by_sort FeatureToBase = refl
by_sort NamedFeature = refl
by_sort NamedFeatureDepColon = refl
by_sort (StrongSlash name) = refl
by_sort (WeakSlash name) = refl
by_sort DependenciesSection = refl

places_decide : (x y : ℕ × ℕ) → place_eq x y ≡ true → x ≡ y
places_decide x y h = (pairs_decide unsigned_Decides unsigned_Decides x y).0 h

module _ (ds : List NumberedValue) (joined : List JoinedValue) (joins : AreJoined ds joined) where
  -- a demand of the same ends has a weight to which this one gives way
  pub record GivesWay (d : NumberedValue) : Type 0 where
    pub weight : ℕ × Text
    pub gives : Contains (gives_way_to d.form) weight
    pub other : NumberedValue
    pub demanded : Contains ds other
    pub outweighs : weight_key other ≡ (ends_of d, weight)

  -- an edge that the demand joins
  pub record JoinsIn (d : NumberedValue) : Type 0 where
    pub edge : JoinedValue
    pub listed : Contains joined edge
    pub same : join_key edge.head ≡ join_key d

  dropped : (y d : NumberedValue) → join_key y ≡ join_key d → is_dropped ds y ≡ true → GivesWay d
  dropped y d same h =
      let w = list_any_cases (λ w. is_outweighed ds (ends_of y, w)) (gives_way_to y.form) h in
      let k = list_any_cases (key_eq (ends_of y, w.0)) (map weight_key ds) w.2 in
      let found = Contains-map_cases weight_key ds k.0 k.1 in
      let ways : gives_way_to y.form ≡ gives_way_to d.form = sym (by_sort y.form) ∙ ap (λ (q : Key). way_of q.1) same ∙ by_sort d.form in
      record {
        weight = w.0;
        gives = subst (λ ws. Contains ws w.0) ways w.1;
        other = found.0;
        demanded = found.1;
        outweighs = found.2 ∙ sym ((keys_decide (ends_of y, w.0) k.0).0 k.2) ∙ ap (λ (q : Key). (q.0, w.0)) same;
      }

  heads : (y d : NumberedValue) → join_key y ≡ join_key d → Contains (first_of_each same_edge ds) y → is_dropped ds y ≡ false → JoinsIn d
  heads y d same h kept =
      let head = Contains-filter (λ k. not (is_dropped ds k)) (first_of_each same_edge ds) y h (ap not kept) in
      let e = Contains-map_cases (λ (j : JoinedValue). j.head) joined y (subst (λ hs. Contains hs y) (sym joins.heads) head) in
      record { edge = e.0; listed = e.1; same = ap join_key e.2 ∙ same }

  -- a demand joins an edge or gives way
  pub joins_or_gives_way : (d : NumberedValue) → Contains ds d → JoinsIn d ⊎ GivesWay d
  joins_or_gives_way d h =
      let first = first_for same_edge_equivalence ds d h in
      let same = (keys_decide (join_key first.0) (join_key d)).0 first.2 in
      ⊎_elim (λ t. inr (dropped first.0 d same t)) (λ f. inl (heads first.0 d same first.1 f)) (cases_Bool (is_dropped ds first.0))

  -- its line stands behind the edge that it joins
  pub line_behind : (e : JoinedValue) → Contains joined e → (d : NumberedValue) → Contains ds d → join_key e.head ≡ join_key d → (x : ℕ × ℕ) → d.line ≡ Some x → Contains e.lines x
  line_behind e listed d h same x is =
      let joins_in = λ (k : NumberedValue). key_eq (join_key e.head) (join_key k) in
      let here = Contains-filter joins_in ds d h ((keys_decide (join_key e.head) (join_key d)).1 same) in
      let y = Any_cases (λ y. place_eq x y ≡ true) e.lines ((All-contains (HasLines ds) joined e joins.lines listed).each x (filter_map-has (λ (k : NumberedValue). k.line) (filter joins_in ds) d x here is)) in
      subst (Contains e.lines) (sym (places_decide x y.0 y.2)) y.1

  -- a line behind an edge is that of a demand that joins it
  pub line_from : (e : JoinedValue) → Contains joined e → (x : ℕ × ℕ) → Contains e.lines x → (d : NumberedValue) × Contains ds d × (join_key e.head ≡ join_key d) × (d.line ≡ Some x)
  line_from e listed x h =
      let joins_in = λ (k : NumberedValue). key_eq (join_key e.head) (join_key k) in
      let found = filter_map-cases (λ (k : NumberedValue). k.line) (filter joins_in ds) x ((All-contains (HasLines ds) joined e joins.lines listed).among x h) in
      let kept = Contains-filter_cases joins_in ds found.0 found.1 in
      (found.0, kept.0, (keys_decide (join_key e.head) (join_key found.0)).0 kept.1, found.2)

  -- an edge's head is a demand
  pub head_demanded : (e : JoinedValue) → Contains joined e → Contains ds e.head
  head_demanded e listed =
      let head = subst (λ hs. Contains hs e.head) joins.heads (Contains-map (λ (j : JoinedValue). j.head) joined e listed) in
      first_of_each-among same_edge ds e.head (Contains-filter_cases (λ d. not (is_dropped ds d)) (first_of_each same_edge ds) e.head head).0
