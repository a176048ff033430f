-- Lists made of other lists in two steps, and one element more.
use Rattle.std.proofs.Common.{◌≡◌, ℕ, ◌+◌, ◌<◌, Bool, true, false, cond, ◌&&◌, List, [], ◌∷◌, ◌++◌, length, get_or, take, map, refl, sym, ◌∙◌, ap, append-nil, append_assoc, filter, flat_map}
use Rattle.std.proofs.lemmas.List.{map-append, take_more}
pub use Rattle.std.proofs.lemmas.List.Concat.{flat_map-append, flat_map_single}
pub use Rattle.std.proofs.lemmas.List.Folds.{flat_map-map}
pub use Rattle.std.proofs.lemmas.List.Elements.{filter-append, filter_more}

module _ {X : Type 0} (p q : X → Bool) where
  kept : (x : X) (xs : List X) (b : Bool) → filter p (cond b (x ∷ xs) xs) ≡ cond (b && p x) (x ∷ filter p xs) (filter p xs)
  kept x xs true = refl
  kept x xs false = refl

  -- a filter of what another one keeps
  pub filter-filter : (xs : List X) → filter p (filter q xs) ≡ filter (λ x. q x && p x) xs
  filter-filter [] = refl
  filter-filter (x ∷ xs) = kept x (filter q xs) (q x) ∙ ap (λ ys. cond (q x && p x) (x ∷ ys) ys) (filter-filter xs)

-- a filter of mapped elements
module _ {X Y : Type 0} (p : Y → Bool) (f : X → Y) where
  mapped : (x : X) (xs : List X) (b : Bool) → map f (cond b (x ∷ xs) xs) ≡ cond b (f x ∷ map f xs) (map f xs)
  mapped x xs true = refl
  mapped x xs false = refl

  pub filter-map : (xs : List X) → filter p (map f xs) ≡ map f (filter (λ x. p (f x)) xs)
  filter-map [] = refl
  filter-map (x ∷ xs) = ap (λ ys. cond (p (f x)) (f x ∷ ys) ys) (filter-map xs) ∙ sym (mapped x (filter (λ y. p (f y)) xs) (p (f x)))

module _ {X Y Z : Type 0} where
  pub map-map : (g : Y → Z) (f : X → Y) (xs : List X) → map g (map f xs) ≡ map (λ x. g (f x)) xs
  map-map g f [] = refl
  map-map g f (x ∷ xs) = ap (λ ys. g (f x) ∷ ys) (map-map g f xs)

  pub map-flat_map : (g : Y → Z) (f : X → List Y) (xs : List X) → map g (flat_map f xs) ≡ flat_map (λ x. map g (f x)) xs
  map-flat_map g f [] = refl
  map-flat_map g f (x ∷ xs) = map-append g (f x) (flat_map f xs) ∙ ap (λ ys. map g (f x) ++ ys) (map-flat_map g f xs)

  pub flat_map-flat_map : (g : Y → List Z) (f : X → List Y) (xs : List X) → flat_map g (flat_map f xs) ≡ flat_map (λ x. flat_map g (f x)) xs
  flat_map-flat_map g f [] = refl
  flat_map-flat_map g f (x ∷ xs) = flat_map-append g (f x) (flat_map f xs) ∙ ap (λ ys. flat_map g (f x) ++ ys) (flat_map-flat_map g f xs)

module _ {X Y : Type 0} where
  pub filter-flat_map : (p : Y → Bool) (f : X → List Y) (xs : List X) → filter p (flat_map f xs) ≡ flat_map (λ x. filter p (f x)) xs
  filter-flat_map p f [] = refl
  filter-flat_map p f (x ∷ xs) = filter-append p (f x) (flat_map f xs) ∙ ap (λ ys. filter p (f x) ++ ys) (filter-flat_map p f xs)

  -- one element more
  pub map-take_more : (f : X → Y) (xs : List X) (i : ℕ) (d : X) → i < length xs → map f (take (i + 1) xs) ≡ map f (take i xs) ++ f (get_or xs i d) ∷ []
  map-take_more f xs i d lt = ap (map f) (take_more xs i d lt) ∙ map-append f (take i xs) (get_or xs i d ∷ [])

  pub flat_map-take_more : (f : X → List Y) (xs : List X) (i : ℕ) (d : X) → i < length xs → flat_map f (take (i + 1) xs) ≡ flat_map f (take i xs) ++ f (get_or xs i d)
  flat_map-take_more f xs i d lt = ap (flat_map f) (take_more xs i d lt) ∙ flat_map-append f (take i xs) (get_or xs i d ∷ []) ∙ ap (λ ys. flat_map f (take i xs) ++ ys) (append-nil (f (get_or xs i d)))

-- one element more of both lists
module _ {X Y Z : Type 0} (g : Y → Z) (h : X → Z) where
  pub both_more : (ys new : List Y) (y : Y) (xs : List X) (i : ℕ) (d : X) → i < length xs → new ≡ ys ++ y ∷ [] → g y ≡ h (get_or xs i d) → map g ys ≡ map h (take i xs) → map g new ≡ map h (take (i + 1) xs)
  both_more ys new y xs i d lt is same before = ap (map g) is ∙ map-append g ys (y ∷ []) ∙ ap (λ z. map g ys ++ z ∷ []) same ∙ ap (λ zs. zs ++ h (get_or xs i d) ∷ []) before ∙ sym (map-take_more h xs i d lt)

-- one element more, and what it adds
module _ {X Z : Type 0} where
  pub mapped_more : (h : X → Z) (old new : List Z) (y : Z) (xs : List X) (i : ℕ) (d : X) → i < length xs → new ≡ old ++ y ∷ [] → y ≡ h (get_or xs i d) → old ≡ map h (take i xs) → new ≡ map h (take (i + 1) xs)
  mapped_more h old new y xs i d lt is same before = is ∙ ap (λ z. old ++ z ∷ []) same ∙ ap (λ zs. zs ++ h (get_or xs i d) ∷ []) before ∙ sym (map-take_more h xs i d lt)

  pub flat_more : (h : X → List Z) (base old new : List Z) (x : X) (xs : List X) (i : ℕ) (d : X) → i < length xs → x ≡ get_or xs i d → new ≡ old ++ h x → old ≡ base ++ flat_map h (take i xs) → new ≡ base ++ flat_map h (take (i + 1) xs)
  flat_more h base old new x xs i d lt at is before =
      let here = ap (λ y. flat_map h (take i xs) ++ h y) at ∙ sym (flat_map-take_more h xs i d lt) in
      is ∙ ap (λ zs. zs ++ h x) before ∙ append_assoc base (flat_map h (take i xs)) (h x) ∙ ap (λ zs. base ++ zs) here
