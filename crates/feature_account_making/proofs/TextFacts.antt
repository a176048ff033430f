-- Texts that are put together of pieces.
use Rattle.std.proofs.Common.{◌≡◌, ℕ, List, ◌++◌, append_assoc, true, IsUtf8, ap, ◌∙◌}
use Rattle.std.proofs.lemmas.Str.{IsUtf8-append}
use Rattle.json.proofs.Printed.Utf8.{are_ascii, IsUtf8-are_ascii}

-- a text to which three pieces are appended one by one
pub three_pushed : (old a b c x y z : List ℕ) → x ≡ old ++ a → y ≡ x ++ b → z ≡ y ++ c → z ≡ old ++ (a ++ (b ++ c))
three_pushed old a b c x y z first second third =
    third ∙ ap (λ t. t ++ c) (second ∙ ap (λ t. t ++ b) first) ∙ append_assoc (old ++ a) b c ∙ append_assoc old a (b ++ c)

-- a text of UTF-8 behind words of ASCII, and before them
pub utf8_behind : (words text : List ℕ) → are_ascii words ≡ true → IsUtf8 text → IsUtf8 (words ++ text)
utf8_behind words text ascii utf8 = IsUtf8-append words text (IsUtf8-are_ascii words ascii) utf8

pub utf8_before : (text words : List ℕ) → are_ascii words ≡ true → IsUtf8 text → IsUtf8 (text ++ words)
utf8_before text words ascii utf8 = IsUtf8-append text words utf8 (IsUtf8-are_ascii words ascii)
