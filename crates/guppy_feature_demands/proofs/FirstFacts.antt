-- Of elements that are the same the first: one element more.
use Rattle.std.proofs.Common.{◌≡◌, ℕ, ◌+◌, ◌<◌, length, get_or, take, Bool, true, false, cond, not, ◌||◌, List, [], ◌∷◌, ◌++◌, filter, append-nil, map, refl, sym, ◌∙◌, ap}
use Rattle.std.proofs.lemmas.Bool.{false≢true}
use Rattle.std.proofs.lemmas.List.{map-append, take_more}
use Rattle.std.proofs.lemmas.List.Elements.{filter-append}
use Rattle.std.specs.List.{list_any}
use Rattle.std.specs.Cmp.{IsEquivalence}
use Rattle.list_facts.proofs.Lists.{map-take_more}
use Rattle.list_facts.proofs.Quantifiers.{list_any-map}
use Rattle.indexmap.specs.IndexSet.{insert_key}
use Rattle.guppy_feature_demands.specs.Nodes.{first_of_each}

module _ {T : Type 0} {eq : T → T → Bool} (laws : IsEquivalence eq) where
  abbrev without : T → List T → List T
  without x xs = filter (λ y. not (eq x y)) xs

  -- what a first test passes alone, a filter by another keeps
  any-without_by : (a b p : T) (ps : List T) (s t : Bool) → eq a b ≡ false → eq a p ≡ s → eq b p ≡ t → list_any (eq a) (without b ps) ≡ list_any (eq a) ps → list_any (eq a) (cond (not t) (p ∷ without b ps) (without b ps)) ≡ (s || list_any (eq a) ps)
  any-without_by a b p ps true true ne e g h = absurd (false≢true (sym ne ∙ laws.congr a p b e ∙ laws.symm p b ∙ g))
  any-without_by a b p ps false true ne e g h = h
  any-without_by a b p ps true false ne e g h = λ i. e i || h i
  any-without_by a b p ps false false ne e g h = λ i. e i || h i

  -- a test by another element finds the same without those of the one
  pub any-without : (a b : T) (ps : List T) → eq a b ≡ false → list_any (eq a) (without b ps) ≡ list_any (eq a) ps
  any-without a b [] ne = refl
  any-without a b (p ∷ ps) ne = any-without_by a b p ps _ _ ne refl refl (any-without a b ps ne)

  abbrev pushed : Bool → List T → T → List T
  pushed b ps q = cond b ps (ps ++ q ∷ [])

  push_by : (p q : T) (ps : List T) (b s : Bool) → list_any (eq q) ps ≡ b → eq q p ≡ s → p ∷ without p (pushed b ps q) ≡ pushed (s || list_any (eq q) (without p ps)) (p ∷ without p ps) q
  push_by p q ps true true h e = refl
  push_by p q ps true false h e = ap (λ c. pushed c (p ∷ without p ps) q) (sym (any-without q p ps e ∙ h))
  push_by p q ps false true h e =
      ap (λ xs. p ∷ xs) (filter-append _ ps (q ∷ []) ∙ ap (λ c. without p ps ++ cond (not c) (q ∷ []) []) (laws.symm p q ∙ e) ∙ append-nil (without p ps))
  push_by p q ps false false h e =
      ap (λ xs. p ∷ xs) (filter-append _ ps (q ∷ []) ∙ ap (λ c. without p ps ++ cond (not c) (q ∷ []) []) (laws.symm p q ∙ e)) ∙ ap (λ c. pushed c (p ∷ without p ps) q) (sym (any-without q p ps e ∙ h))

  pub first_of_each-push : (ps : List T) (q : T) → first_of_each eq (ps ++ q ∷ []) ≡ insert_key eq (first_of_each eq ps) q
  first_of_each-push [] q = refl
  first_of_each-push (p ∷ ps) q =
      ap (λ xs. p ∷ without p xs) (first_of_each-push ps q) ∙ push_by p q (first_of_each eq ps) _ _ refl refl

  insert_seen : {X : Type 0} (f : X → T) (old : List X) (x : X) (b : Bool) → list_any (λ y. eq (f x) (f y)) old ≡ b → map f (cond b old (old ++ x ∷ [])) ≡ insert_key eq (map f old) (f x)
  insert_seen f old x true e = ap (λ c. cond c (map f old) (map f old ++ f x ∷ [])) (sym (list_any-map (eq (f x)) f old ∙ e))
  insert_seen f old x false e =
      map-append f old (x ∷ []) ∙ ap (λ c. cond c (map f old) (map f old ++ f x ∷ [])) (sym (list_any-map (eq (f x)) f old ∙ e))

  -- one element more, kept by what shows it
  pub inserted_seen : {X : Type 0} (f : X → T) (old new : List X) (x : X) → new ≡ insert_key (λ a b. eq (f a) (f b)) old x → map f new ≡ insert_key eq (map f old) (f x)
  inserted_seen f old new x inserted = ap (map f) inserted ∙ insert_seen f old x (list_any (λ y. eq (f x) (f y)) old) refl

  -- one element more
  pub first_step : (xs : List T) (i : ℕ) (d : T) → i < length xs → (old new : List T) → old ≡ first_of_each eq (take i xs) → d ≡ get_or xs i d → new ≡ insert_key eq old d → new ≡ first_of_each eq (take (i + 1) xs)
  first_step xs i d lt old new before is inserted =
      inserted ∙ ap (λ ks. insert_key eq ks d) before ∙ sym (first_of_each-push (take i xs) d) ∙ ap (first_of_each eq) (ap (λ z. take i xs ++ z ∷ []) is ∙ sym (take_more xs i d lt))

  -- one element more, of those that are seen
  pub first_next : {X : Type 0} (f : X → T) (xs : List X) (i : ℕ) (d : X) → i < length xs → (old new : List T) → old ≡ first_of_each eq (map f (take i xs)) → new ≡ insert_key eq old (f (get_or xs i d)) → new ≡ first_of_each eq (map f (take (i + 1) xs))
  first_next f xs i d lt old new before inserted =
      let x = get_or xs i d in
      inserted ∙ ap (λ ks. insert_key eq ks (f x)) before ∙ sym (first_of_each-push (map f (take i xs)) (f x)) ∙ ap (first_of_each eq) (sym (map-take_more f xs i d lt))

-- one element more in two lists that are the same
pub inserted_both : {T : Type 0} (eq : T → T → Bool) (old both new grown : List T) (x y : T) → both ≡ old → x ≡ y → new ≡ insert_key eq old x → grown ≡ cond (list_any (eq x) old) both (both ++ y ∷ []) → grown ≡ new
inserted_both eq old both new grown x y same is inserted pushed =
    pushed ∙ (λ i. cond (list_any (eq x) old) (same i) (same i ++ sym is i ∷ [])) ∙ sym inserted

-- a list grows by an element that was not found
pub grown_by : {X : Type 0} (old new : List X) (x : X) (added seen found : Bool) → seen ≡ found → added ≡ not found → added ≡ true → new ≡ old ++ x ∷ [] → new ≡ cond seen old (old ++ x ∷ [])
grown_by old new x added true true same by new_one is = absurd (false≢true (sym by ∙ new_one))
grown_by old new x added true false same by new_one is = absurd (false≢true (sym same))
grown_by old new x added false found same by new_one is = is

-- and stays as it is where the element was found
pub stays_by : {X : Type 0} (old : List X) (x : X) (added seen found : Bool) → seen ≡ found → added ≡ not found → added ≡ false → old ≡ cond seen old (old ++ x ∷ [])
stays_by old x added true found same by none = refl
stays_by old x added false true same by none = absurd (false≢true same)
stays_by old x added false false same by none = absurd (false≢true (sym none ∙ by))
