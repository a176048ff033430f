-- Texts of a program are made of bytes.
use Rattle.std.proofs.Common.{◌≡◌, refl, ℕ, ◌<◌, ◌+◌, ◌/◌, Bool, true, false, cond, nat_lt, List, [], ◌∷◌, All, Contains, IsUtf8, String, inl, inr, arith, get_or, length, ltb-true, map, string_bytes, subst, take}
use Rattle.std.proofs.lemmas.Bool.{and_parts}
use Rattle.std.proofs.lemmas.List.Elements.{All-more}
use Rattle.std.proofs.lemmas.Str.{IsUtf8-string_bytes}
use Rattle.std.specs.Global.{Global}
use lib.Utf8.{encode, encodes, next, scalar, scalar_cases, scalars}
use Rattle.list_facts.specs.Texts.{pair_of}
use Rattle.list_facts.proofs.Membership.{Contains-map_cases}
use Rattle.workspace_record.specs.LabelView.{label_view}
use Rattle.workspace_record.specs.Records.{Text}
use Rattle.workspace_record.specs.declared.label.Label.{Label}
use Rattle.workspace_record.specs.declared.label.Label.TheVariants as code
use Rattle.nextest_filtering.specs.SameFilters.{AreBytes}
use Rattle.nextest_filtering.proofs.ByteFacts.{bytes_by_test, bytes_joined, bytes_one_more}
use Rattle.test_select_tests.specs.ByteNames.{IsByteLabel}

-- a character is spelled by one to four bytes
next_byte : (bits : ℕ) → next bits < 256
next_byte bits = omega arith

one : (a : ℕ) → a < 256 → AreBytes (a ∷ [])
one a first = bytes_one_more a [] first (bytes_by_test [] refl)

two : (a b : ℕ) → a < 256 → b < 256 → AreBytes (a ∷ b ∷ [])
two a b first second = bytes_one_more a (b ∷ []) first (one b second)

three : (a b c : ℕ) → a < 256 → b < 256 → c < 256 → AreBytes (a ∷ b ∷ c ∷ [])
three a b c first second third = bytes_one_more a (b ∷ c ∷ []) first (two b c second third)

by_length : (c : ℕ) → c < 1114112 → (x y z : Bool) → (x ≡ true → c < 128) → (y ≡ true → c < 2048) → (z ≡ true → c < 65536) → AreBytes (cond x (c ∷ []) (cond y ((192 + c / 64) ∷ next c ∷ []) (cond z ((224 + c / 4096) ∷ next (c / 64) ∷ next c ∷ []) ((240 + c / 262144) ∷ next (c / 4096) ∷ next (c / 64) ∷ next c ∷ []))))
by_length c within true y z a b d = let lt = a refl in one c (omega (arith, lt))
by_length c within false true z a b d = let lt = b refl in two (192 + c / 64) (next c) (omega (arith, lt)) (next_byte c)
by_length c within false false true a b d = let lt = d refl in three (224 + c / 4096) (next (c / 64)) (next c) (omega (arith, lt)) (next_byte (c / 64)) (next_byte c)
by_length c within false false false a b d =
    bytes_one_more (240 + c / 262144) (next (c / 4096) ∷ next (c / 64) ∷ next c ∷ []) (omega (arith, within)) (three (next (c / 4096)) (next (c / 64)) (next c) (next_byte (c / 4096)) (next_byte (c / 64)) (next_byte c))

below : (c : ℕ) → scalar c ≡ true → c < 1114112
below c ok = elim (scalar_cases c ok) [ inl low ↦ omega (arith, low) | inr high ↦ high.1 ]

one_char : (c : ℕ) → scalar c ≡ true → AreBytes (encode c)
unfolding encode
one_char c ok = by_length c (below c ok) (nat_lt c 128) (nat_lt c 2048) (nat_lt c 65536) (λ e. ltb-true c 128 e) (λ e. ltb-true c 2048 e) (λ e. ltb-true c 65536 e)

all_chars : (cs : List ℕ) → scalars cs ≡ true → AreBytes (encodes cs)
all_chars [] e = bytes_by_test [] refl
all_chars (c ∷ cs) e = let p = and_parts _ _ e in bytes_joined (encode c) (encodes cs) (one_char c p.0) (all_chars cs p.1)

utf8_bytes : (text : Text) → IsUtf8 text → AreBytes text
utf8_bytes text u = subst AreBytes u.1.1 (all_chars u.0 u.1.0)

pub text_bytes : (s : String Global) → AreBytes (string_bytes s)
text_bytes s = utf8_bytes (string_bytes s) (IsUtf8-string_bytes s)

-- the names of pairs of texts
pub pairs_bytes : (pairs : List (String Global × String Global)) (pair : Text × Text) → Contains (map pair_of pairs) pair → AreBytes pair.1
pairs_bytes pairs pair inside =
    let (p, among, is) = Contains-map_cases pair_of pairs pair inside in
    subst (λ (x : Text × Text). AreBytes x.1) is (text_bytes p.1)

pub label_bytes : (l : Label) → IsByteLabel (label_view l)
label_bytes code.Base = tt
label_bytes (code.Named name) = text_bytes name
label_bytes (code.Dep name) = tt

-- one row more was seen
pub seen_more : {X : Type 0} (P : X → Type 0) (xs : List X) (i : ℕ) (x : X) → i < length xs → x ≡ get_or xs i x → All P (take i xs) → P x → All P (take (i + 1) xs)
seen_more P xs i x lt is before here = All-more P xs i x lt before (subst P is here)
