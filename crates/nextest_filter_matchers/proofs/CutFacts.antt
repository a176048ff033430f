-- Where a text can be parted.
use Rattle.std.proofs.Common.{◌≡◌, ◌∙◌, ℕ, ◌+◌, ◌≤◌, ◌↔◌, inl, inr, List, [], ◌∷◌, ◌++◌, drop, take, length, sym, ap, subst, arith, append_assoc}
use Rattle.std.proofs.Math.Seq.{drop-append_seam}
use Rattle.std.proofs.lemmas.List.{append_cancel_right, drop-drop, take-append-drop}
use Rattle.std.proofs.lemmas.Str.{IsCharBoundary-past_char, IsUtf8-drop, IsUtf8-take, chars-append, chars-nil, chars_past_char}
use Rattle.std.specs.Char.{encode_utf8, len_utf8}
use Rattle.std.specs.Prelude.{IsUtf8}
use Rattle.std.specs.Str.{IsCharBoundary, chars}
use Rattle.nextest_filter_matchers.specs.Parts.{IsNextCut, Splits}

pub next_cut_at : (bs rest : List ℕ) (i c n len : ℕ) → IsUtf8 bs → IsCharBoundary bs i → drop i bs ≡ encode_utf8 c ++ rest → len ≡ len_utf8 c → len ≡ length (encode_utf8 c) → 1 ≤ len → n ≡ i + len → IsNextCut bs i n
next_cut_at bs rest i c n len utf8 cut e value size some next =
    let within : i ≤ length bs = cut.0 in
    let past = IsCharBoundary-past_char bs rest i c within (IsUtf8-drop bs i utf8 cut) e in
    let is_cut : IsCharBoundary bs n = subst (IsCharBoundary bs) (omega (arith, value, next)) past in
    let behind : drop n bs ≡ rest = ap (λ k. drop k bs) next ∙ sym (drop-drop len i bs) ∙ ap (drop len) e ∙ ap (λ k. drop k (encode_utf8 c ++ rest)) size ∙ drop-append_seam (encode_utf8 c) rest in
    let first : chars (drop i bs) ≡ c ∷ chars (drop n bs) = chars_past_char (drop i bs) rest c (IsUtf8-drop bs i utf8 cut) e ∙ ap (λ r. c ∷ chars r) (sym behind) in
    let one = chars-append (take i bs) (drop i bs) (IsUtf8-take bs i utf8 cut) in
    let other = chars-append (take n bs) (drop n bs) (IsUtf8-take bs n utf8 is_cut) in
    let same : chars (take n bs) ++ chars (drop n bs) ≡ (chars (take i bs) ++ c ∷ []) ++ chars (drop n bs) =
    sym other ∙ ap chars (take-append-drop n bs ∙ sym (take-append-drop i bs)) ∙ one ∙ ap (λ r. chars (take i bs) ++ r) first ∙ sym (append_assoc (chars (take i bs)) (c ∷ []) (chars (drop n bs))) in
    record {
      is_cut = is_cut;
      further = omega (arith, some, next);
      character = c;
      front = append_cancel_right (chars (take n bs)) (chars (take i bs) ++ c ∷ []) (chars (drop n bs)) same;
      back = first;
    }

module _ (First Rest : List ℕ → Type 0) (bs : List ℕ) where
  -- no way to part the text before a cut serves
  abbrev pub SplitsAt : ℕ → Type 0
  SplitsAt at = Splits First Rest (chars (take at bs)) (chars (drop at bs))

  pub splits_start : SplitsAt 0 ↔ Splits First Rest [] (chars bs)
  splits_start =
      let e : chars (take 0 bs) ≡ [] = chars-nil in
      (λ h. subst (λ f. Splits First Rest f (chars bs)) e h, λ h. subst (λ f. Splits First Rest f (chars bs)) (sym e) h)

  here_splits : (front back : List ℕ) → First front → Rest back → Splits First Rest front back
  here_splits front [] f r = (f, r)
  here_splits front (c ∷ back) f r = inl (f, r)

  -- it serves here
  pub splits_here : (at : ℕ) → First (chars (take at bs)) → Rest (chars (drop at bs)) → SplitsAt at
  splits_here at f r = here_splits (chars (take at bs)) (chars (drop at bs)) f r

  -- or further on
  pub splits_on : (at next : ℕ) → IsNextCut bs at next → (First (chars (take at bs)) → Rest (chars (drop at bs)) → ⊥) → SplitsAt at ↔ SplitsAt next
  splits_on at next cut none = (
    λ h.
        elim (subst (Splits First Rest (chars (take at bs))) cut.back h) [
          | inl w ↦ absurd (none w.0 (subst Rest (sym cut.back) w.1))
          | inr w ↦ subst (λ f. Splits First Rest f (chars (drop next bs))) (sym cut.front) w
        ],
    λ h.
        subst (Splits First Rest (chars (take at bs))) (sym cut.back) (inr (subst (λ f. Splits First Rest f (chars (drop next bs))) cut.front h)),
  )

  -- nothing is further on at the end
  pub splits_end : (at : ℕ) → drop at bs ≡ [] → (First (chars (take at bs)) → Rest (chars (drop at bs)) → ⊥) → SplitsAt at → ⊥
  splits_end at over none h =
      let e : chars (drop at bs) ≡ [] = ap chars over ∙ chars-nil in
      let w = subst (Splits First Rest (chars (take at bs))) e h in
      none w.0 (subst Rest (sym e) w.1)
