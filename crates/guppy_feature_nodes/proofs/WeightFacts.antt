-- One weight more among those that are there.
use Rattle.std.proofs.Common.{◌≡◌, ℕ, ◌+◌, ◌<◌, length, get_or, take, Bool, true, false, cond, ◌||◌, List, [], ◌∷◌, ◌++◌, map, refl, sym, ◌∙◌, ap}
use Rattle.std.proofs.lemmas.Bool.{false≢true}
use Rattle.std.specs.List.{list_any}
use Rattle.list_facts.proofs.Lists.{map-take_more}
use Rattle.std.proofs.lemmas.List.{map-append}
use Rattle.guppy_feature_demands.specs.Demands.{NumberedValue}
use Rattle.guppy_feature_nodes.specs.Joining.{Key, key_eq, weight_key}
use Rattle.guppy_feature_nodes.specs.KeyViews.{keys_decide, keys_equivalence}
use Rattle.guppy_feature_nodes.specs.Weights.{FindsWeights, is_weighty}
use Rattle.indexmap.specs.IndexSet.{insert_key}

or_swap : (a b : Bool) → (a || (b || false)) ≡ (a || b)
or_swap true b = refl
or_swap false true = refl
or_swap false false = refl

any_push : (key x : Key) (ks : List Key) → list_any (key_eq key) (ks ++ x ∷ []) ≡ (list_any (key_eq key) ks || key_eq key x)
any_push key x [] = or_swap false (key_eq key x)
any_push key x (k ∷ ks) = ap (λ b. key_eq key k || b) (any_push key x ks) ∙ or_assoc (key_eq key k) _ _
  where
    or_assoc : (a b c : Bool) → (a || (b || c)) ≡ ((a || b) || c)
    or_assoc true b c = refl
    or_assoc false b c = refl

found_already : (key x : Key) (ks : List Key) → list_any (key_eq x) ks ≡ true → list_any (key_eq key) ks ≡ (list_any (key_eq key) ks || key_eq key x)
found_already key x ks h = by (key_eq key x) refl
  where
    absorb : (a : Bool) → a ≡ (a || false)
    absorb true = refl
    absorb false = refl

    by : (b : Bool) → key_eq key x ≡ b → list_any (key_eq key) ks ≡ (list_any (key_eq key) ks || b)
    by false e = absorb (list_any (key_eq key) ks)
    by true e = same ∙ ap (λ c. c || true) (sym same)
      where
        same : list_any (key_eq key) ks ≡ true
        same = (λ i. list_any (λ y. keys_equivalence.congr key x y e i) ks) ∙ h

any_inserted : (key x : Key) (ks : List Key) (b : Bool) → list_any (key_eq x) ks ≡ b → list_any (key_eq key) (cond b ks (ks ++ x ∷ [])) ≡ (list_any (key_eq key) ks || key_eq key x)
any_inserted key x ks true h = found_already key x ks h
any_inserted key x ks false h = any_push key x ks

-- what is inserted is found beside what was there
pub any_after : (key x : Key) (old new : List Key) → new ≡ insert_key key_eq old x → list_any (key_eq key) new ≡ (list_any (key_eq key) old || key_eq key x)
any_after key x old new is = ap (list_any (key_eq key)) is ∙ any_inserted key x old (list_any (key_eq x) old) refl

-- what is not inserted is no weight to which others give way
pub any_stays : (key x : Key) (old : List Key) → is_weighty key ≡ true → is_weighty x ≡ false → list_any (key_eq key) old ≡ (list_any (key_eq key) old || key_eq key x)
any_stays key x old weighty light = by (key_eq key x) refl
  where
    stays : (a : Bool) → a ≡ (a || false)
    stays true = refl
    stays false = refl

    by : (b : Bool) → key_eq key x ≡ b → list_any (key_eq key) old ≡ (list_any (key_eq key) old || b)
    by false e = stays (list_any (key_eq key) old)
    by true e = absurd (false≢true (sym light ∙ ap is_weighty (sym ((keys_decide key x).0 e)) ∙ weighty))

-- one demand more
pub weights_more : {X : Type 0} (view : X → NumberedValue) (xs : List X) (i : ℕ) (d : X) → i < length xs → (old new : List Key) → FindsWeights (map view (take i xs)) old → ((key : Key) → is_weighty key ≡ true → list_any (key_eq key) new ≡ (list_any (key_eq key) old || key_eq key (weight_key (view (get_or xs i d))))) → FindsWeights (map view (take (i + 1) xs)) new
weights_more view xs i d lt old new before after =
    let x = view (get_or xs i d) in
    let grown = ap (map weight_key) (map-take_more view xs i d lt) ∙ map-append weight_key (map view (take i xs)) (x ∷ []) in
    record {
      each = λ key weighty. after key weighty ∙ ap (λ b. b || key_eq key (weight_key x)) (before.each key weighty) ∙ sym (any_push key (weight_key x) (map weight_key (map view (take i xs)))) ∙ ap (list_any (key_eq key)) (sym grown);
    }
