-- Tests of two things: of both, of one and not the other, of one by the other.
pub use Rattle.std.proofs.lemmas.Bool.{and_parts}
use Rattle.std.proofs.Common.{◌≡◌, Bool, true, false, not, ◌&&◌, refl, sym, true≢false}

-- the first holds, and not the second
pub and_not_parts : (a b : Bool) → (a && not b) ≡ true → (a ≡ true) × (b ≡ false)
and_not_parts true true e = absurd (true≢false (sym e))
and_not_parts true false e = (refl, refl)
and_not_parts false b e = absurd (true≢false (sym e))

-- never the first without the second
pub implied : (a b : Bool) → (a && not b) ≡ false → a ≡ true → b ≡ true
implied true true e h = refl
implied true false e h = absurd (true≢false e)
implied false b e h = absurd (true≢false (sym h))

-- what fails of the second fails of the first, which implies it
pub not_mono : (a b : Bool) → (a ≡ true → b ≡ true) → not b ≡ true → not a ≡ true
not_mono true true h e = e
not_mono true false h e = absurd (true≢false (sym (h refl)))
not_mono false b h e = refl
