-- A `-` is a byte of no character but itself.
use Rattle.std.proofs.Common.{◌≡◌, sym, ap, ◌∙◌, ℕ, List, ◌++◌, arith, append_assoc}
use Rattle.std.proofs.lemmas.Bool.Decides.{nat_tests}
use Rattle.std.proofs.lemmas.Grind.{common_steps}
use Rattle.std.proofs.lemmas.List.{map-append}
use Rattle.std.proofs.Math.Utf8.{encode}
use Rattle.guppy_package_table.specs.LinkRows.{char_in_rust, name_in_rust}

pub name_of_char : (c : ℕ) → name_in_rust (encode c) ≡ encode (char_in_rust c)
unfolding encode
name_of_char c = grind (arith, nat_tests, common_steps)

-- one character more
pub name_more : (letter : ℕ) (name text new rest left : List ℕ) → name_in_rust name ≡ text ++ name_in_rust rest → rest ≡ encode letter ++ left → new ≡ text ++ encode (char_in_rust letter) → name_in_rust name ≡ new ++ name_in_rust left
name_more letter name text new rest left is split pushed =
    is ∙ ap (λ t. text ++ name_in_rust t) split ∙ ap (λ t. text ++ t) (map-append char_in_rust (encode letter) left) ∙ ap (λ t. text ++ (t ++ name_in_rust left)) (name_of_char letter)
    ∙ sym (append_assoc text (encode (char_in_rust letter)) (name_in_rust left)) ∙ ap (λ t. t ++ name_in_rust left) (sym pushed)
