-- Sets as lists in ascending order, each element once.
use Rattle.std.specs.Prelude.{◌≡◌, Bool, true, List, [], ◌∷◌, ◌++◌, Any, Contains, codes}
use Rattle.std.specs.Cmp.{IsPartialOrder, IsTotalOrder, partial_order_from_agreeing_total}
use Rattle.std.specs.Cmp.Lexicographic.{lists_ties, lists_total, pointwise, slice_cmp}
use Rattle.std.specs.List.{AllZip, flat_map}
use Rattle.std.specs.List.Sorted.{IsStrictlySortedBy}
use Rattle.std.specs.Ordering.{as_partial_cmp, eq_by_cmp}
use Rattle.std.proofs.Common.{refl}
use Rattle.std.specs.declared.cmp.Ordering.{Ordering}
use Rattle.workspace_record.specs.Records.{Text}

-- sorted has these elements alone, one equal to each of them, and each is below the next (from guppy's `SortedSet`)
pub record HoldsEach {T : Type 0} (eq : T → T → Bool) (cmp : T → T → Ordering) (elements sorted : List T) : Type 0 where
  pub among : (x : T) → Contains sorted x → Contains elements x
  pub each : (x : T) → Contains elements x → Any (λ y. eq x y ≡ true) sorted
  pub ascending : IsStrictlySortedBy cmp sorted

-- copy is the set of clones of the elements, one of each
abbrev pub HoldsClones : {T : Type 0} → (T → T → Type 0) → (T → T → Bool) → (T → T → Ordering) → List T → List T → Type 0
HoldsClones {T} is_clone eq cmp elements copy = (clones : List T) × AllZip is_clone elements clones × HoldsEach eq cmp clones copy

module _ {T : Type 0} {eq : T → T → Bool} (cmp : T → T → Ordering) where
  -- lists by their first elements that differ, as a partial order
  pub lists_in_order : IsTotalOrder cmp → ((x y : T) → eq x y ≡ eq_by_cmp cmp x y) → IsPartialOrder (pointwise eq) (as_partial_cmp (slice_cmp cmp))
  lists_in_order total ties = partial_order_from_agreeing_total (slice_cmp cmp) (lists_total total) (λ a b. refl) (lists_ties cmp ties)

-- each text after a comma and a space
abbrev pub joined_rest : List Text → Text
joined_rest = flat_map (λ text. codes ", " ++ text)

-- the texts with a comma and a space between each two
abbrev pub joined : List Text → Text
joined [] = []
joined (text ∷ texts) = text ++ joined_rest texts
