-- Listings of packages reversed, as orders in which they build.
use Rattle.std.proofs.Common.{◌≡◌, ◌≢◌, ◌∙◌, ⊎_elim, ℕ, ◌+◌, ◌-◌, ◌<◌, Bool, cond, List, [], ◌∷◌, ◌++◌, Some, All, AllPairs, Contains, refl, ap, sym, subst, map, filter, take, reverse, position, length, get_or, nat_lt, slice_get, arith}
use Rattle.std.specs.Cmp.Lexicographic.{bytes_decides}
use Rattle.std.specs.Str.{bytes_eq}
use Rattle.std.proofs.lemmas.Bool.{cases_order, lt-ltb, ltb-true}
use Rattle.std.proofs.lemmas.List.{get_or-map, get_or-reverse, length-map, length-reverse}
use Rattle.std.proofs.lemmas.List.Kept.{AllPairs-filter}
use Rattle.std.proofs.lemmas.List.Quantifiers.{position-Some}
use Rattle.std.proofs.lemmas.Option.{get_or_from_slice_get, slice_get_cases, slice_get_within}
use Rattle.list_facts.proofs.Lists.{filter-append, map-take_more}
use Rattle.list_facts.proofs.Quantifiers.{All-from_Contains}
use Rattle.list_facts.proofs.Membership.{Contains-filter, Contains-filter_cases, Contains-map, Contains-map_cases}
use Rattle.numbered_graph.specs.declared.link.Link as numbered
use Rattle.numbered_graph.specs.Listings.{IsForward, IsListing}
use Rattle.numbered_graph.specs.Paths.{Reaches, any_link}
use Rattle.numbered_graph.specs.Sets.{has}
use Rattle.workspace_record.specs.Records.{Link, Package, Text}
use Rattle.workspace_record.specs.Features.{FeatureValue}
use Rattle.feature_account.specs.Accounts.{concluded_set}
use Rattle.feature_account_rules.specs.RuleList.{base_of}
use Rattle.feature_account.proofs.ConcludedFacts.{concluded_iff}
use Rattle.guppy_package_rules.specs.Kept.{IsPackageId}
use Rattle.guppy_package_table.specs.Tables.{firm_flags, ids_of, links_among}
use Rattle.test_select_features.specs.DependencyOrders.{AreBehind, IsDependencyOrder, Leads}

-- one more of those that are mapped, if it is kept
pub kept_more : {X Y : Type 0} (p : Y → Bool) (f : X → Y) (old new : List Y) (y : Y) (xs : List X) (i : ℕ) (d : X) → i < length xs → y ≡ f (get_or xs i d) → new ≡ old ++ cond (p y) (y ∷ []) [] → old ≡ filter p (map f (take i xs)) → new ≡ filter p (map f (take (i + 1) xs))
kept_more p f old new y xs i d lt at is before =
    let all : filter p (map f (take (i + 1) xs)) ≡ filter p (map f (take i xs)) ++ filter p (f (get_or xs i d) ∷ []) = ap (filter p) (map-take_more f xs i d lt) ∙ filter-append p (map f (take i xs)) (f (get_or xs i d) ∷ []) in
    is ∙ ap (λ ys. ys ++ cond (p y) (y ∷ []) []) before ∙ ap (λ z. filter p (map f (take i xs)) ++ cond (p z) (z ∷ []) []) at ∙ sym all

-- what holds two by two of a list holds the other way round of the list reversed
pairs-reverse : {X : Type 0} (R : X → X → Type 0) (xs : List X) → AllPairs R xs → AllPairs (λ a b. R b a) (reverse xs)
pairs-reverse R xs h i j d less lt =
    let within : j < length xs = subst (λ n. j < n) (length-reverse xs) lt in
    rw (get_or-reverse xs i d (omega (arith, less, within)), get_or-reverse xs j d within) (h (length xs - 1 - j) (length xs - 1 - i) d (omega (arith, less, within)) (omega (arith, less, within)))

Contains-reverse : {X : Type 0} (xs : List X) (x : X) → Contains xs x → Contains (reverse xs) x
Contains-reverse xs x (k, lt, at) =
    let i = length xs - 1 - k in
    let there : i < length xs = omega (arith, lt) in
    let same : length xs - 1 - i ≡ k = omega (arith, lt) in
    (i, subst (λ n. i < n) (sym (length-reverse xs)) there, get_or-reverse xs i x there ∙ ap (λ n. get_or xs n x) same ∙ at)

Contains-reverse_cases : {X : Type 0} (xs : List X) (x : X) → Contains (reverse xs) x → Contains xs x
Contains-reverse_cases xs x (k, lt, at) =
    let within : k < length xs = subst (λ n. k < n) (length-reverse xs) lt in
    (length xs - 1 - k, omega (arith, within), sym (get_or-reverse xs k x within) ∙ at)

ids_differ : (packages : List Package) → AllPairs (λ a b. a.id ≢ b.id) packages → (v w : ℕ) → v < w → w < length packages → get_or (ids_of packages) v [] ≡ get_or (ids_of packages) w [] → ⊥
ids_differ [] apart v w less lt same = absurd (omega (arith, lt))
ids_differ (p ∷ ps) apart v w less lt same = apart v w p less lt (sym (get_or-map (λ (x : Package). x.id) (p ∷ ps) v p [] (omega (arith, less, lt))) ∙ same ∙ get_or-map (λ (x : Package). x.id) (p ∷ ps) w p [] lt)

module _ (packages : List Package) (apart : AllPairs (λ a b. a.id ≢ b.id) packages) where
  -- the id of the package at a place
  abbrev pub id_of_place : ℕ → Text
  id_of_place v = get_or (ids_of packages) v []

  -- packages at two places with one id are at one place
  one_place : (v w : ℕ) → v < length packages → w < length packages → id_of_place v ≡ id_of_place w → v ≡ w
  one_place v w lt more same =
      ⊎_elim (λ e. e)
      (⊎_elim (λ less. absurd (ids_differ packages apart v w less more same)) (λ less. absurd (ids_differ packages apart w v less lt (sym same))))
      (cases_order v w)

  -- the place at which an id is found
  found_place : (v w : ℕ) → v < length packages → position (bytes_eq (id_of_place v)) (ids_of packages) ≡ Some w → w ≡ v
  found_place v w lt is =
      let found = position-Some (bytes_eq (id_of_place v)) (ids_of packages) w [] is in
      let within : w < length packages = subst (λ n. w < n) (length-map packages (λ p. p.id)) found.0 in
      one_place w v within lt (sym ((bytes_decides (id_of_place v) (id_of_place w)).0 found.1))

  module _ (links : List Link) where
    -- paths between places are paths between ids
    behind_at : (passes : ℕ → Bool) (v w : ℕ) → v < length packages → w < length packages → (Reaches (links_among packages links) passes v w → Reaches (links_among packages links) passes w v) → Leads packages links passes (id_of_place v) (id_of_place w) → Leads packages links passes (id_of_place w) (id_of_place v)
    behind_at passes v w lt more back leads =
        let is_v = found_place v leads.from lt leads.is_from in
        let is_w = found_place w leads.to more leads.is_to in
        let there = subst (λ k. Reaches (links_among packages links) passes k w) is_v (subst (λ k. Reaches (links_among packages links) passes leads.from k) is_w leads.path) in
        record {
          from = leads.to;
          to = leads.from;
          is_from = leads.is_to;
          is_to = leads.is_from;
          path = subst (λ k. Reaches (links_among packages links) passes leads.to k) (sym is_v) (subst (λ k. Reaches (links_among packages links) passes k v) (sym is_w) (back there));
        }

  -- what holds two by two of places holds of their ids
  pairs-to_ids : (R : ℕ → ℕ → Type 0) (P : Text → Text → Type 0) → ((a b : ℕ) → a < length packages → b < length packages → R a b → P (id_of_place a) (id_of_place b)) → (places : List ℕ) → All (λ v. v < length packages) places → AllPairs R places → AllPairs P (map id_of_place places)
  pairs-to_ids R P step places within h i j d less lt =
      let last : j < length places = subst (λ n. j < n) (length-map places id_of_place) lt in
      let first : i < length places = omega (arith, less, last) in
      rw (get_or-map id_of_place places i 0 d first, get_or-map id_of_place places j 0 d last) (step (get_or places i 0) (get_or places j 0) (within i 0 first) (within j 0 last) (h i j 0 less last))

  id_of_row : (v : ℕ) (row : Package) → slice_get packages v ≡ Some row → id_of_place v ≡ row.id
  id_of_row v row is = get_or-map (λ (x : Package). x.id) packages v row [] (slice_get_within packages v row is) ∙ ap (λ (x : Package). x.id) (get_or_from_slice_get packages v row row is)

  known_at : (v : ℕ) → v < length packages → IsPackageId packages (id_of_place v)
  known_at v lt =
      ⊎_elim
      (λ (row, within, is, at). (v, row, within, at, sym (id_of_row v row is)))
      (λ (past, none). absurd (omega (arith, past, lt)))
      (slice_get_cases packages v).1

  -- a listing over links and flags that are those of the links
  pub listed_so : (links : List Link) (between : List numbered.Link) (firm : List Bool) (count : ℕ) (xs : List ℕ) → between ≡ links_among packages links → firm ≡ firm_flags links → count ≡ length packages → IsListing between (has firm) (λ v. nat_lt v count) xs → IsListing (links_among packages links) (has (firm_flags links)) (λ v. nat_lt v (length packages)) xs
  listed_so links between firm count xs between_are firm_are counted h =
      subst (λ n. IsListing (links_among packages links) (has (firm_flags links)) (λ v. nat_lt v n) xs) counted
      (subst (λ flags. IsListing (links_among packages links) (has flags) (λ v. nat_lt v count) xs) firm_are
      (subst (λ ls. IsListing ls (has firm) (λ v. nat_lt v count) xs) between_are h))

  module _ (links : List Link) (on : List FeatureValue) (xs : List ℕ) (listing : IsListing (links_among packages links) (has (firm_flags links)) (λ v. nat_lt v (length packages)) xs) where
    in_range : (v : ℕ) → Contains (reverse xs) v → v < length packages
    in_range v inside = ltb-true v (length packages) ((listing.each v).0 (Contains-reverse_cases xs v inside))

    pub all_in_range : All (λ v. v < length packages) (reverse xs)
    all_in_range = All-from_Contains (λ v. v < length packages) (reverse xs) in_range

    abbrev ids : List Text
    ids = map id_of_place (reverse xs)

    abbrev is_on : Text → Bool
    is_on id = concluded_set on (base_of id)

    behind : (passes : ℕ → Bool) → IsForward (links_among packages links) passes xs → AreBehind packages links passes (filter is_on ids)
    behind passes forward =
        AllPairs-filter (λ a b. Leads packages links passes a b → Leads packages links passes b a) is_on ids
        (pairs-to_ids (λ a b. Reaches (links_among packages links) passes a b → Reaches (links_among packages links) passes b a) (λ a b. Leads packages links passes a b → Leads packages links passes b a) (behind_at links passes) (reverse xs) all_in_range (pairs-reverse (λ x y. Reaches (links_among packages links) passes y x → Reaches (links_among packages links) passes x y) xs forward))

    -- the ids of a listing of all packages reversed, without those of packages that are off, are a dependency order
    pub order_of : IsDependencyOrder packages links on (filter is_on ids)
    order_of = record {
      members = λ id. (
        λ inside.
            let passes = Contains-filter_cases is_on ids id inside in
            let (v, there, same) = Contains-map_cases id_of_place (reverse xs) id passes.0 in
            (subst (IsPackageId packages) same (known_at v (in_range v there)), (concluded_iff on (base_of id)).0 passes.1),
        λ ((k, row, lt, at, same), holds).
            let here : id_of_place k ≡ id = get_or-map (λ (x : Package). x.id) packages k row [] lt ∙ ap (λ (x : Package). x.id) at ∙ same in
            let there = Contains-map id_of_place (reverse xs) k (Contains-reverse xs k ((listing.each k).1 (lt-ltb k (length packages) lt))) in
            Contains-filter is_on ids id (subst (Contains ids) here there) ((concluded_iff on (base_of id)).1 holds),
      );
      once = AllPairs-filter (λ a b. a ≢ b) is_on ids (pairs-to_ids (λ a b. b ≢ a) (λ a b. a ≢ b) (λ a b lt more differ same. differ (sym (one_place a b lt more same))) (reverse xs) all_in_range (pairs-reverse (λ x y. x ≢ y) xs listing.once));
      dependencies_first = behind any_link listing.forward;
      firm_dependencies_first = behind (has (firm_flags links)) listing.firm_forward;
      listed = record { listing = xs; is_listing = listing; ids_are = refl };
    }
