-- Patterns are printed a character at a time.
use Rattle.std.proofs.Common.{◌≡◌, ℕ, Bool, ◌&&◌, not, List, [], ◌∷◌, ◌++◌, nat_eq, refl, sym, ◌∙◌, ap, append_assoc, append-nil}
use Rattle.std.specs.List.{flat_map}
use Rattle.std.proofs.lemmas.List.Concat.{flat_map-append}
use Rattle.nextest_filter_matchers.specs.Printing.{pattern_character, printed_character, printed_pattern, escaped_after}

pub printed_pattern-push : (escaped : Bool) (xs : List ℕ) (c : ℕ) → printed_pattern escaped xs ++ pattern_character (escaped_after escaped xs) c ≡ printed_pattern escaped (xs ++ c ∷ [])
printed_pattern-push escaped [] c = sym (append-nil (pattern_character escaped c))
printed_pattern-push escaped (x ∷ xs) c =
    append_assoc (pattern_character escaped x) _ _ ∙ ap (λ t. pattern_character escaped x ++ t) (printed_pattern-push (nat_eq x 92 && not escaped) xs c)

pub escaped_after-push : (escaped : Bool) (xs : List ℕ) (c : ℕ) → escaped_after escaped (xs ++ c ∷ []) ≡ (nat_eq c 92 && not (escaped_after escaped xs))
escaped_after-push escaped [] c = refl
escaped_after-push escaped (x ∷ xs) c = escaped_after-push (nat_eq x 92 && not escaped) xs c

-- so are texts
pub printed_text-push : (xs : List ℕ) (c : ℕ) → flat_map printed_character xs ++ printed_character c ≡ flat_map printed_character (xs ++ c ∷ [])
printed_text-push xs c =
    ap (λ t. flat_map printed_character xs ++ t) (sym (append-nil (printed_character c))) ∙ sym (flat_map-append printed_character xs (c ∷ []))
