-- One demand more among those that are joined.
use Rattle.std.proofs.Common.{◌≡◌, ℕ, ◌+◌, ◌<◌, length, get_or, take, map, filter, Bool, true, false, cond, not, ◌||◌, List, [], ◌∷◌, ◌++◌, append-nil, Option, Some, None, refl, sym, ◌∙◌, ap}
use Rattle.std.proofs.lemmas.Bool.{false≢true}
use Rattle.std.proofs.lemmas.List.Elements.{filter-append, filter_map-append}
use Rattle.std.specs.List.{filter_map, list_any}
use Rattle.std.specs.Map.{lookup}
use Rattle.list_facts.proofs.Lists.{map-take_more}
use Rattle.indexmap.specs.IndexMap.{insert_entry}
use Rattle.indexmap.specs.IndexSet.{insert_key}
use Rattle.guppy_feature_demands.proofs.FirstFacts.{any-without, first_of_each-push}
use Rattle.guppy_feature_demands.specs.Demands.{NumberedValue}
use Rattle.guppy_feature_demands.specs.Nodes.{first_of_each}
use Rattle.guppy_feature_nodes.specs.Groups.{group_at, grown, line_of}
use Rattle.guppy_feature_nodes.specs.HeadViews.{same_edge_equivalence}
use Rattle.guppy_feature_nodes.specs.Joining.{JoinedValue, Key, join_key, key_eq, lines_joined, same_edge}
use Rattle.guppy_feature_nodes.specs.KeyViews.{keys_equivalence}

first_false : (a b : Bool) → (a || b) ≡ false → a ≡ false
first_false true b h = h
first_false false b h = refl

second_false : (a b : Bool) → (a || b) ≡ false → b ≡ false
second_false true b h = absurd (false≢true (sym h))
second_false false b h = h

-- what no element passes keeps none
filter_none : {X : Type 0} (p : X → Bool) (xs : List X) → list_any p xs ≡ false → filter p xs ≡ []
filter_none p [] h = refl
filter_none p (x ∷ xs) h =
    ap (λ b. cond b (x ∷ filter p xs) (filter p xs)) (first_false (p x) (list_any p xs) h) ∙ filter_none p xs (second_false (p x) (list_any p xs) h)

any_filter : {X : Type 0} (p q : X → Bool) (xs : List X) → list_any q xs ≡ false → list_any q (filter p xs) ≡ false
any_filter p q [] h = refl
any_filter p q (x ∷ xs) h = by (any_filter p q xs (second_false (q x) (list_any q xs) h)) (p x)
  where
    by : list_any q (filter p xs) ≡ false → (b : Bool) → list_any q (cond b (x ∷ filter p xs) (filter p xs)) ≡ false
    by rest true = ap (λ c. c || list_any q (filter p xs)) (first_false (q x) (list_any q xs) h) ∙ rest
    by rest false = rest

none_without : {X : Type 0} (p : X → Bool) (xs : List X) → list_any p (filter (λ x. not (p x)) xs) ≡ false
none_without p [] = refl
none_without p (x ∷ xs) = by (none_without p xs) (p x) refl
  where
    by : list_any p (filter (λ y. not (p y)) xs) ≡ false → (b : Bool) → p x ≡ b → list_any p (cond (not b) (x ∷ filter (λ y. not (p y)) xs) (filter (λ y. not (p y)) xs)) ≡ false
    by rest true e = rest
    by rest false e = ap (λ c. c || list_any p (filter (λ y. not (p y)) xs)) e ∙ rest

-- no two of them join
unfoldable Apart : List NumberedValue → Type 0
Apart [] = Unit {0}
Apart (h ∷ hs) = (list_any (same_edge h) hs ≡ false) × Apart hs

kept_apart : (h : NumberedValue) (hs : List NumberedValue) (b : Bool) → list_any (same_edge h) hs ≡ false → Apart hs → Apart (cond b (h ∷ hs) hs)
unfolding Apart
kept_apart h hs true none apart = (none, apart)
kept_apart h hs false none apart = apart

apart_filter : (p : NumberedValue → Bool) (hs : List NumberedValue) → Apart hs → Apart (filter p hs)
unfolding Apart
apart_filter p [] apart = tt
apart_filter p (h ∷ hs) apart = kept_apart h (filter p hs) (p h) (any_filter p (same_edge h) hs apart.0) (apart_filter p hs apart.1)

apart_first : (ds : List NumberedValue) → Apart (first_of_each same_edge ds)
unfolding Apart
apart_first [] = tt
apart_first (d ∷ ds) =
    (none_without (same_edge d) (first_of_each same_edge ds), apart_filter (λ y. not (same_edge d y)) (first_of_each same_edge ds) (apart_first ds))

-- a demand joins with a first one where it joins with any
any_first : (a : NumberedValue) (ds : List NumberedValue) → list_any (same_edge a) (first_of_each same_edge ds) ≡ list_any (same_edge a) ds
any_first a [] = refl
any_first a (d ∷ ds) = by (any_first a ds) (same_edge a d) refl
  where
    by : list_any (same_edge a) (first_of_each same_edge ds) ≡ list_any (same_edge a) ds → (b : Bool) → same_edge a d ≡ b → (b || list_any (same_edge a) (filter (λ y. not (same_edge d y)) (first_of_each same_edge ds))) ≡ (b || list_any (same_edge a) ds)
    by rest true e = refl
    by rest false e = any-without same_edge_equivalence a d (first_of_each same_edge ds) e ∙ rest

joined-append : (ds es : List NumberedValue) (q : Key) → lines_joined (ds ++ es) q ≡ lines_joined ds q ++ lines_joined es q
joined-append ds es q =
    ap (filter_map (λ (e : NumberedValue). e.line)) (filter-append (λ d. key_eq q (join_key d)) ds es) ∙ filter_map-append (λ (e : NumberedValue). e.line) (filter (λ d. key_eq q (join_key d)) ds) (filter (λ d. key_eq q (join_key d)) es)

placed : (line : Option (ℕ × ℕ)) → filter_map (λ (p : Option (ℕ × ℕ)). p) (line ∷ []) ≡ line_of line
placed None = refl
placed (Some place) = refl

by_key : (d : NumberedValue) (b : Bool) → filter_map (λ (e : NumberedValue). e.line) (cond b (d ∷ []) []) ≡ cond b (line_of d.line) []
by_key d true = placed d.line
by_key d false = refl

none_joined : (ds : List NumberedValue) (d : NumberedValue) → list_any (same_edge d) ds ≡ false → lines_joined ds (join_key d) ≡ []
none_joined ds d h = ap (filter_map (λ (e : NumberedValue). e.line)) (filter_none (same_edge d) ds h)

module _ (ds : List NumberedValue) (d : NumberedValue) where
  -- the group of one that joins with d or does not
  more_lines : (h : NumberedValue) (b : Bool) → key_eq (join_key h) (join_key d) ≡ b → lines_joined (ds ++ d ∷ []) (join_key h) ≡ lines_joined ds (join_key h) ++ cond b (line_of d.line) []
  more_lines h b e =
      joined-append ds (d ∷ []) (join_key h) ∙ ap (λ ls. lines_joined ds (join_key h) ++ ls) (by_key d (key_eq (join_key h) (join_key d)) ∙ ap (λ c. cond c (line_of d.line) []) e)

  same_group : (h : NumberedValue) → key_eq (join_key d) (join_key h) ≡ false → group_at (ds ++ d ∷ []) h ≡ group_at ds h
  same_group h e =
      ap (λ ls. (join_key h, record { head = h; lines = ls })) (more_lines h false (keys_equivalence.symm (join_key h) (join_key d) ∙ e) ∙ append-nil (lines_joined ds (join_key h)))

  same_groups : (hs : List NumberedValue) → list_any (same_edge d) hs ≡ false → map (group_at (ds ++ d ∷ [])) hs ≡ map (group_at ds) hs
  same_groups [] none = refl
  same_groups (h ∷ hs) none =
      λ i. same_group h (first_false (same_edge d h) (list_any (same_edge d) hs) none) i ∷ same_groups hs (second_false (same_edge d h) (list_any (same_edge d) hs) none) i

  abbrev found : List NumberedValue → JoinedValue
  found hs = grown (lookup (key_eq (join_key d)) (map (group_at ds) hs)) d

  cons_cond : {X : Type 0} (x : X) (b : Bool) (xs ys : List X) → x ∷ cond b xs ys ≡ cond b (x ∷ xs) (x ∷ ys)
  cons_cond x true xs ys = refl
  cons_cond x false xs ys = refl

  -- under what joins d its group grows, and the others stay
  grows : (hs : List NumberedValue) → Apart hs → (list_any (same_edge d) hs ≡ false → lines_joined ds (join_key d) ≡ []) → insert_entry key_eq (map (group_at ds) hs) (join_key d) (found hs) ≡ map (group_at (ds ++ d ∷ [])) (insert_key same_edge hs d)
  unfolding Apart
  grows [] apart none =
      ap (λ ls. (join_key d, record { head = d; lines = ls }) ∷ []) (ap (λ ls. ls ++ line_of d.line) (sym (none refl)) ∙ sym (more_lines d true (keys_equivalence.refl (join_key d))))
  grows (h ∷ hs) apart none = by (grows hs apart.1) (same_edge d h) refl
    where
      by : ((list_any (same_edge d) hs ≡ false → lines_joined ds (join_key d) ≡ []) → insert_entry key_eq (map (group_at ds) hs) (join_key d) (found hs) ≡ map (group_at (ds ++ d ∷ [])) (insert_key same_edge hs d)) → (b : Bool) → same_edge d h ≡ b → cond b ((join_key h, grown (cond b (Some (group_at ds h).1) (lookup (key_eq (join_key d)) (map (group_at ds) hs))) d) ∷ map (group_at ds) hs) (group_at ds h ∷ insert_entry key_eq (map (group_at ds) hs) (join_key d) (grown (cond b (Some (group_at ds h).1) (lookup (key_eq (join_key d)) (map (group_at ds) hs))) d)) ≡ map (group_at (ds ++ d ∷ [])) (cond (b || list_any (same_edge d) hs) (h ∷ hs) (h ∷ (hs ++ d ∷ [])))
      by more true e =
          let others : list_any (same_edge d) hs ≡ false = (λ i. list_any (λ y. same_edge_equivalence.congr d h y e i) hs) ∙ apart.0 in
          λ i. (join_key h, record { head = h; lines = sym (more_lines h true (keys_equivalence.symm (join_key h) (join_key d) ∙ e)) i }) ∷ sym (same_groups hs others) i
      by more false e =
          let rest = more (λ n. none (ap (λ c. c || list_any (same_edge d) hs) e ∙ n)) in
          (λ i. sym (same_group h e) i ∷ rest i) ∙ ap (map (group_at (ds ++ d ∷ []))) (cons_cond h (list_any (same_edge d) hs) hs (hs ++ d ∷ []))

-- one demand more
pub groups_more : {X : Type 0} (view : X → NumberedValue) (xs : List X) (i : ℕ) (d : X) → i < length xs → (old new : List (Key × JoinedValue)) → old ≡ map (group_at (map view (take i xs))) (first_of_each same_edge (map view (take i xs))) → new ≡ insert_entry key_eq old (join_key (view (get_or xs i d))) (grown (lookup (key_eq (join_key (view (get_or xs i d)))) old) (view (get_or xs i d))) → new ≡ map (group_at (map view (take (i + 1) xs))) (first_of_each same_edge (map view (take (i + 1) xs)))
groups_more view xs i d lt old new before after =
    let x = view (get_or xs i d) in
    let ds = map view (take i xs) in
    let firsts = first_of_each same_edge ds in
    after ∙ ap (λ (es : List (Key × JoinedValue)). insert_entry key_eq es (join_key x) (grown (lookup (key_eq (join_key x)) es) x)) before ∙ grows ds x firsts (apart_first ds) (λ n. none_joined ds x (sym (any_first x ds) ∙ n)) ∙ ap (map (group_at (ds ++ x ∷ []))) (sym (first_of_each-push same_edge_equivalence ds x)) ∙ ap (λ (es : List NumberedValue). map (group_at es) (first_of_each same_edge es)) (sym (map-take_more view xs i d lt))
