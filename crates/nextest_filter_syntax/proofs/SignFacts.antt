-- A matcher's sign ends within its text, where it may be cut.
use Rattle.std.proofs.Common.{◌≡◌, ℕ, ◌+◌, ◌<◌, true, List, arith}
use Rattle.std.proofs.lemmas.Bool.{cond_both}
use Rattle.std.specs.Str.{IsUtf8}
use Rattle.nextest_filter_tokens.specs.Bytes.{IsEnd, is_byte}
use Rattle.nextest_filter_tokens.proofs.BlankFacts.{boundary_after_byte, byte_within}
use Rattle.nextest_filter_syntax.specs.LeafGrammar.{sign_at}
use Rattle.nextest_filter_syntax.specs.declared.signs.Sign.{Sign}
use Rattle.nextest_filter_syntax.specs.declared.signs.Sign.TheVariants.{Slash, Says, Bare}

abbrev pub SignEnds : List ℕ → ℕ → Sign → Type 0
SignEnds text i Slash = (is_byte text i 47 ≡ true) × IsEnd text i (i + 1)
SignEnds text i (Says style) = IsEnd text i (i + 1)
SignEnds text i Bare = Unit {0}

module _ (text : List ℕ) (utf8 : IsUtf8 text) where
  byte_ends : (i c : ℕ) → c < 128 → is_byte text i c ≡ true → IsEnd text i (i + 1)
  byte_ends i c small h =
      let inside = byte_within text i c h in
      (omega arith, omega arith, boundary_after_byte text i c utf8 small h)

  slash_ends : (i : ℕ) → is_byte text i 47 ≡ true → SignEnds text i Slash
  slash_ends i h = (h, byte_ends i 47 (omega arith) h)

  pub sign_ends : (i : ℕ) → SignEnds text i (sign_at text i)
  unfolding sign_at
  sign_ends i =
      cond_both _ _ _ (SignEnds text i) (slash_ends i) (λ _. cond_both _ _ _ (SignEnds text i) (byte_ends i 35 (omega arith)) (λ _. cond_both _ _ _ (SignEnds text i) (byte_ends i 61 (omega arith)) (λ _. cond_both _ _ _ (SignEnds text i) (byte_ends i 126 (omega arith)) (λ _. tt))))
