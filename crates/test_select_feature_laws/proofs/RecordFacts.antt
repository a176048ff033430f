-- Rows of one name are one row.
use Rattle.std.proofs.Common.{◌≡◌, ◌≢◌, ℕ, ◌<◌, length, get_or, List, AllPairs, Contains, Some, sym, ap, ◌∙◌, ⊎_elim, arith}
use Rattle.std.proofs.lemmas.Bool.{cases_lt}
use Rattle.std.proofs.lemmas.Option.{get_or_from_slice_get, slice_get-get_or}
use Rattle.workspace_record.specs.Records.{Text}

-- no two of these have one name
abbrev pub AreApart : {X : Type 0} → (X → Text) → List X → Type 0
AreApart name_of xs = AllPairs (λ a b. name_of a ≢ name_of b) xs

-- what stands at a place stands there whatever stands past the end
pub stands : {X : Type 0} (xs : List X) (k : ℕ) (x d : X) → k < length xs → get_or xs k x ≡ x → get_or xs k d ≡ x
stands xs k x d lt is = get_or_from_slice_get xs k x d (slice_get-get_or xs k x lt ∙ ap Some is)

-- of elements that are apart two of one name are one
pub same_by_name : {X : Type 0} (name_of : X → Text) (xs : List X) → AreApart name_of xs → (x y : X) → Contains xs x → Contains xs y → name_of x ≡ name_of y → x ≡ y
same_by_name name_of xs apart x y h k same =
    let i = h.0 in
    let j = k.0 in
    let at_x : (d : _) → get_or xs i d ≡ x = λ d. stands xs i x d h.1 h.2 in
    let at_y : (d : _) → get_or xs j d ≡ y = λ d. stands xs j y d k.1 k.2 in
    ⊎_elim (λ before. absurd (apart i j x before k.1 (ap name_of (at_x x) ∙ same ∙ sym (ap name_of (at_y x)))))
    (λ here. ⊎_elim (λ after. absurd (apart j i x after h.1 (ap name_of (at_y x) ∙ sym same ∙ sym (ap name_of (at_x x)))))
    (λ there. let equal : i ≡ j = omega (arith, here, there) in sym (at_x x) ∙ ap (λ n. get_or xs n x) equal ∙ at_y x)
    (cases_lt j i))
    (cases_lt i j)
