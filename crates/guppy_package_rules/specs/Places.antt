-- The first place of a list at which a test of the element, and of those before it, passes.
use Rattle.std.specs.Prelude.{ℕ, ◌+◌, Bool, List, [], ◌∷◌, ◌++◌, Option, Some, None, if◌then◌else◌}
use Rattle.std.specs.List.{list_any}
use Rattle.std.specs.Option.{option_map}

-- the first place whose element passes the test, which sees these elements and then those at earlier places too
abbrev pub first_place_after : {X : Type 0} → (List X → X → Bool) → List X → List X → Option ℕ
first_place_after test before [] = None
first_place_after test before (x ∷ xs) = if test before x then Some 0 else option_map (λ i. i + 1) (first_place_after test (before ++ x ∷ []) xs)

-- the first place whose element passes the test, which sees the elements at earlier places too
abbrev pub first_place : {X : Type 0} → (List X → X → Bool) → List X → Option ℕ
first_place test xs = first_place_after test [] xs

-- the first place whose element is the same as that of an earlier place
abbrev pub first_repeat : {X : Type 0} → (X → X → Bool) → List X → Option ℕ
first_repeat same xs = first_place (λ before x. list_any (same x) before) xs
