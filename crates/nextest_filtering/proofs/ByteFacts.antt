-- Texts that are made of bytes.
use Rattle.std.proofs.Common.{◌≡◌, ℕ, zero, suc, ◌<◌, true, [], ◌∷◌, ◌++◌, nat_lt, arith}
use Rattle.std.specs.List.{list_all}
use Rattle.std.proofs.lemmas.Bool.{and_parts, ltb-true}
use Rattle.workspace_record.specs.Records.{Text}
use Rattle.nextest_filtering.specs.SameFilters.{AreBytes}

pub bytes_one_more : (byte : ℕ) (text : Text) → byte < 256 → AreBytes text → AreBytes (byte ∷ text)
bytes_one_more byte text lt rest zero = lt
bytes_one_more byte text lt rest (suc k) = rest k

pub bytes_joined : (front back : Text) → AreBytes front → AreBytes back → AreBytes (front ++ back)
bytes_joined [] back f b = b
bytes_joined (byte ∷ front) back f b = bytes_one_more byte (front ++ back) (f 0) (bytes_joined front back (λ k. f (suc k)) b)

no_bytes : AreBytes []
no_bytes zero = omega arith
no_bytes (suc k) = omega arith

-- a test tells it of each text
pub bytes_by_test : (text : Text) → list_all (λ byte. nat_lt byte 256) text ≡ true → AreBytes text
bytes_by_test [] passes = no_bytes
bytes_by_test (byte ∷ text) passes =
    let both = and_parts (nat_lt byte 256) (list_all (λ b. nat_lt b 256) text) passes in
    bytes_one_more byte text (ltb-true byte 256 both.0) (bytes_by_test text both.1)
