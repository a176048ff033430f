-- Places in lists, and lists with their places.
use Rattle.std.proofs.Common.{◌≡◌, ℕ, zero, suc, ◌+◌, ◌<◌, ◌≤◌, length, get_or, take, Bool, true, false, cond, not, List, [], ◌∷◌, ◌++◌, map, nat_lt, Some, None, position, refl, sym, ◌∙◌, ap, arith, append_assoc, append-nil, flat_map}
use Rattle.std.proofs.lemmas.Bool.Decides.{nat_tests}
use Rattle.std.proofs.lemmas.List.{map-append}
use Rattle.std.proofs.lemmas.List.Sums.{prefix_len-le-length}
use Rattle.std.specs.List.{position_or_len}
use Rattle.list_facts.proofs.Lists.{flat_map-append, flat_map-map}
use Rattle.workspace_record.specs.Records.{Line, Link}
use Rattle.guppy_feature_demands.specs.Numbered.{lines_of, numbered, numbered_from}

pub position_or_len-map : {X Y : Type 0} (test : Y → Bool) (f : X → Y) (xs : List X) → position_or_len test (map f xs) ≡ position_or_len (λ x. test (f x)) xs
position_or_len-map test f [] = refl
position_or_len-map test f (x ∷ xs) = ap (λ n. cond (not (test (f x))) (1 + n) 0) (position_or_len-map test f xs)

closed : (a b : ℕ) → a ≤ b → cond (nat_lt a b) (Some a) None ≡ None → a ≡ b
closed a b le none = grind (arith, nat_tests, le, none)

-- nothing passes, so its place is past the end
pub at_end : {X : Type 0} (p : X → Bool) (xs : List X) → position p xs ≡ None → position_or_len p xs ≡ length xs
at_end p xs none = closed (position_or_len p xs) (length xs) (prefix_len-le-length (λ x. not (p x)) xs) none

found : (a b i : ℕ) → cond (nat_lt a b) (Some a) None ≡ Some i → a ≡ i
found a b i h = by (nat_lt a b) h
  where
    by : (c : Bool) → cond c (Some a) None ≡ Some i → a ≡ i
    by true e = cc
    by false e = cc

-- the first place that passes
pub at_place : {X : Type 0} (p : X → Bool) (xs : List X) (i : ℕ) → position p xs ≡ Some i → position_or_len p xs ≡ i
at_place p xs i h = found (position_or_len p xs) (length xs) i h

-- one element more
pub numbered_more : {X : Type 0} (n : ℕ) (xs : List X) (i : ℕ) (d : X) → i < length xs → numbered_from n (take (i + 1) xs) ≡ numbered_from n (take i xs) ++ (n + i, get_or xs i d) ∷ []
numbered_more n [] i d lt = absurd (omega (arith, lt))
numbered_more n (x ∷ xs) zero d lt = ap (λ k. (k, x) ∷ []) (omega arith)
numbered_more {X = X} n (x ∷ xs) (suc i) d lt =
    let same : (n + 1) + i ≡ n + suc i = omega arith in
    let rest = numbered_more (n + 1) xs i d (omega (arith, lt)) in
    let moved : numbered_from (n + 1) (take (i + 1) xs) ≡ numbered_from (n + 1) (take i xs) ++ (n + suc i, get_or xs i d) ∷ [] = rest ∙ ap (λ (k : ℕ). numbered_from (n + 1) (take i xs) ++ (k, get_or xs i d) ∷ []) same in
    let one : suc i + 1 ≡ suc (i + 1) = omega arith in
    ap (λ (k : ℕ). numbered_from n (take k (x ∷ xs))) one ∙ ap (λ (ys : List (ℕ × X)). (n, x) ∷ ys) moved

numbered_one : {X : Type 0} (xs : List X) (i : ℕ) (d : X) → i < length xs → numbered_from 0 (take (i + 1) xs) ≡ numbered_from 0 (take i xs) ++ (i, get_or xs i d) ∷ []
numbered_one xs i d lt =
    let same : 0 + i ≡ i = omega arith in
    numbered_more 0 xs i d lt ∙ ap (λ (k : ℕ). numbered_from 0 (take i xs) ++ (k, get_or xs i d) ∷ []) same

module _ {X Y : Type 0} (xs : List X) (i : ℕ) (d : X) where
  -- one element more, which gives one, after what stood before
  pub numbered_map : (f : ℕ × X → Y) → i < length xs → (base old new : List Y) → old ≡ base ++ map f (numbered_from 0 (take i xs)) → new ≡ old ++ f (i, get_or xs i d) ∷ [] → new ≡ base ++ map f (numbered_from 0 (take (i + 1) xs))
  numbered_map f lt base old new before pushed =
      let now = numbered_from 0 (take i xs) in
      let one : List (ℕ × X) = (i, get_or xs i d) ∷ [] in
      pushed ∙ ap (λ ys. ys ++ map f one) before ∙ append_assoc base (map f now) (map f one) ∙ ap (λ ys. base ++ ys) (sym (map-append f now one) ∙ ap (map f) (sym (numbered_one xs i d lt)))

  -- one element more, which gives several, after what stood before
  pub numbered_flat : (f : ℕ × X → List Y) → i < length xs → (base old new : List Y) → old ≡ base ++ flat_map f (numbered_from 0 (take i xs)) → new ≡ old ++ f (i, get_or xs i d) → new ≡ base ++ flat_map f (numbered_from 0 (take (i + 1) xs))
  numbered_flat f lt base old new before pushed =
      let now = numbered_from 0 (take i xs) in
      let at : ℕ × X = (i, get_or xs i d) in
      pushed ∙ ap (λ ys. ys ++ f at) before ∙ append_assoc base (flat_map f now) (f at) ∙ ap (λ ys. base ++ ys) (ap (λ ys. flat_map f now ++ ys) (sym (append-nil (f at))) ∙ sym (flat_map-append f now (at ∷ [])) ∙ ap (flat_map f) (sym (numbered_one xs i d lt)))

-- one element more, as it is
pub numbered_push : {X A : Type 0} (view : A → ℕ × X) (xs : List X) (i : ℕ) (d : X) → i < length xs → (old new : List A) (a : A) → map view old ≡ numbered_from 0 (take i xs) → view a ≡ (i, get_or xs i d) → new ≡ old ++ a ∷ [] → map view new ≡ numbered_from 0 (take (i + 1) xs)
numbered_push view xs i d lt old new a before seen pushed =
    ap (map view) pushed ∙ map-append view old (a ∷ []) ∙ (λ j. before j ++ seen j ∷ []) ∙ sym (numbered_one xs i d lt)

map_places : {X Y Z : Type 0} (g : Y → Z) (f : X → Y) (xs : List X) → map g (map f xs) ≡ map (λ x. g (f x)) xs
map_places g f [] = refl
map_places g f (x ∷ xs) = ap (λ ys. g (f x) ∷ ys) (map_places g f xs)

-- what is said of each line of a link is said of each with its number
pub lines_said : {Y : Type 0} (say : (ℕ × ℕ) × Line → Y) (link : ℕ × Link) → map say (lines_of link) ≡ map (λ line. say ((link.0, line.0), line.1)) (numbered link.1.lines)
lines_said say link = map_places say (λ (line : ℕ × Line). ((link.0, line.0), line.1)) (numbered link.1.lines)

-- the same of several that are said
pub lines_flat : {Y : Type 0} (say : (ℕ × ℕ) × Line → List Y) (link : ℕ × Link) → flat_map say (lines_of link) ≡ flat_map (λ line. say ((link.0, line.0), line.1)) (numbered link.1.lines)
lines_flat say link = flat_map-map say (λ (line : ℕ × Line). ((link.0, line.0), line.1)) (numbered link.1.lines)
