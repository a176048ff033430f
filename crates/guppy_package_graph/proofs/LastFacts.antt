-- The last of a list, and those before it.
use Rattle.std.proofs.Common.{◌≡◌, ◌∙◌, ℕ, ◌<◌, List, [], ◌∷◌, ◌++◌, Option, Some, None, MatchOption, All, ap, sym, subst, length, map, arith}
use Rattle.std.proofs.lemmas.List.{length_push, map-append}
use Rattle.std.proofs.lemmas.List.Elements.{All-nil, All-pop}

-- what holds of all holds of those before the last
pub front_within : (P : ℕ → Type 0) (before after : List ℕ) (r : Option ℕ) → MatchOption r ((before ≡ []) × (after ≡ [])) (λ x. before ≡ after ++ x ∷ []) → All P before → All P after
front_within P before after (Some x) is within = (All-pop P before after (Some x) is within).0
front_within P before after None is within = subst (All P) (sym is.1) (All-nil P)

module _ {X : Type 0} (xs before : List X) (x : X) (is : xs ≡ before ++ x ∷ []) where
  pub all_before : (P : X → Type 0) → All P xs → All P before
  all_before P h = (All-pop P xs before (Some x) is h).0

  pub all_last : (P : X → Type 0) → All P xs → P x
  all_last P h = (All-pop P xs before (Some x) is h).1

  pub mapped_last : {Y : Type 0} (f : X → Y) → map f xs ≡ map f before ++ f x ∷ []
  mapped_last f = ap (map f) is ∙ map-append f before (x ∷ [])

  pub fewer : length before < length xs
  fewer = let sizes = ap length is ∙ length_push before x in omega (arith, sizes)
