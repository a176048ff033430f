-- A glob matches two parts of a text, one after the other.
use Rattle.std.proofs.Common.{◌≡◌, ◌∙◌, ℕ, zero, suc, ◌+◌, ◌-◌, ◌<◌, ◌≤◌, ◌↔◌, inl, inr, true, List, [], ◌∷◌, ◌++◌, drop, take, length, slice_index_or, refl, sym, ap, subst, arith, append_assoc, append-nil}
use Rattle.std.proofs.lemmas.List.{get_or-drop, get_or-take, length-drop, length-take-le}
use Rattle.nextest_filter_matchers.specs.Globs.{CharacterSet, Glob, Token, Empty, Single, Then, Either, One, AnyText, LeadingDirectories, InnerDirectories, TrailingDirectories, Character, GlobMatches, IsOne, IsSlash, IsDirectories, SuitsToken, Suits, is_in_set, tokens_then}
use Rattle.nextest_filter_matchers.specs.Parts.{Splits}

module _ (text : List ℕ) where
  folders_ordered : (i j : ℕ) → IsDirectories text i j → i ≤ j
  folders_ordered i j (inl e) = omega (arith, e)
  folders_ordered i j (inr w) = omega (arith, w.1.0, w.2.2)

  token_ordered : (token : Token) (i j : ℕ) → SuitsToken text token i j → i ≤ j
  token_ordered (One set) i j h = omega (arith, h.2)
  token_ordered AnyText i j h = h.0
  token_ordered LeadingDirectories i j h = folders_ordered i j h
  token_ordered InnerDirectories i j h = omega (arith, h.1.2, folders_ordered h.0 j h.2)
  token_ordered TrailingDirectories i j h = omega (arith, h.1.2, h.2.0)

  suits_ordered : (glob : Glob) (i j : ℕ) → Suits text glob i j → i ≤ j
  suits_ordered Empty i j h = omega (arith, h)
  suits_ordered (Single token) i j h = token_ordered token i j h
  suits_ordered (Then a b) i j h = omega (arith, suits_ordered a i h.0 h.1, suits_ordered b h.0 j h.2)
  suits_ordered (Either a b) i j (inl h) = suits_ordered a i j h
  suits_ordered (Either a b) i j (inr h) = suits_ordered b i j h

-- a part of a text, with what stands before it
module _ (s t : List ℕ) (d n : ℕ) (of_part : n ≤ length s) (of_whole : n + d ≤ length t) (same : (k : ℕ) → k < n → slice_index_or t (k + d) 0 ≡ slice_index_or s k 0) where
  one_whole : (set : CharacterSet) (i j : ℕ) → j ≤ n → IsOne s set i j → IsOne t set (i + d) (j + d)
  one_whole set i j le h = (omega (arith, h.2), subst (λ c. is_in_set set c ≡ true) (sym (same i (omega (arith, h.2)))) h.1, omega (arith, h.2))

  one_part : (set : CharacterSet) (i j : ℕ) → j ≤ n → IsOne t set (i + d) (j + d) → IsOne s set i j
  one_part set i j le h = (omega (arith, h.2), subst (λ c. is_in_set set c ≡ true) (same i (omega (arith, h.2))) h.1, omega (arith, h.2))

  folders_whole : (i j : ℕ) → j ≤ n → IsDirectories s i j → IsDirectories t (i + d) (j + d)
  folders_whole i j le (inl e) = inl (omega (arith, e))
  folders_whole i j le (inr w) = inr (w.0 + d, (omega (arith, w.1.0), omega (arith, w.2.2)), one_whole (Character 47) w.0 j le w.2)

  folders_part : (i j : ℕ) → j ≤ n → IsDirectories t (i + d) (j + d) → IsDirectories s i j
  folders_part i j le (inl e) = inl (omega (arith, e))
  folders_part i j le (inr w) =
      let back : w.0 ≡ (w.0 - d) + d = omega (arith, w.1.0) in
      inr (w.0 - d, (omega (arith, w.1.0), omega (arith, w.2.2, w.1.0)), one_part (Character 47) (w.0 - d) j le (subst (λ m. IsSlash t m (j + d)) back w.2))

  token_whole : (token : Token) (i j : ℕ) → j ≤ n → SuitsToken s token i j → SuitsToken t token (i + d) (j + d)
  token_whole (One set) i j le h = one_whole set i j le h
  token_whole AnyText i j le h = (omega (arith, h.0), omega (arith, h.1))
  token_whole LeadingDirectories i j le h = folders_whole i j le h
  token_whole InnerDirectories i j le h =
      (h.0 + d, one_whole (Character 47) i h.0 (omega (arith, folders_ordered s h.0 j h.2)) h.1, folders_whole h.0 j le h.2)
  token_whole TrailingDirectories i j le h =
      (h.0 + d, one_whole (Character 47) i h.0 (omega (arith, h.2.0)) h.1, (omega (arith, h.2.0), omega (arith, h.2.1)))

  token_part : (token : Token) (i j : ℕ) → j ≤ n → SuitsToken t token (i + d) (j + d) → SuitsToken s token i j
  token_part (One set) i j le h = one_part set i j le h
  token_part AnyText i j le h = (omega (arith, h.0), omega (arith, h.1))
  token_part LeadingDirectories i j le h = folders_part i j le h
  token_part InnerDirectories i j le h =
      let back : h.0 ≡ (i + 1) + d = omega (arith, h.1.2) in
      let near = folders_ordered t h.0 (j + d) h.2 in
      (i + 1, one_part (Character 47) i (i + 1) (omega (arith, near, back)) (subst (IsSlash t (i + d)) back h.1), folders_part (i + 1) j le (subst (λ m. IsDirectories t m (j + d)) back h.2))
  token_part TrailingDirectories i j le h =
      let back : h.0 ≡ (i + 1) + d = omega (arith, h.1.2) in
      (i + 1, one_part (Character 47) i (i + 1) (omega (arith, h.2.0, back)) (subst (IsSlash t (i + d)) back h.1), (omega (arith, h.2.0, back), omega (arith, h.2.1)))

  suits_whole : (glob : Glob) (i j : ℕ) → j ≤ n → Suits s glob i j → Suits t glob (i + d) (j + d)
  suits_whole Empty i j le h = omega (arith, h)
  suits_whole (Single token) i j le h = token_whole token i j le h
  suits_whole (Then a b) i j le h =
      (h.0 + d, suits_whole a i h.0 (omega (arith, suits_ordered s b h.0 j h.2)) h.1, suits_whole b h.0 j le h.2)
  suits_whole (Either a b) i j le (inl h) = inl (suits_whole a i j le h)
  suits_whole (Either a b) i j le (inr h) = inr (suits_whole b i j le h)

  suits_part : (glob : Glob) (i j : ℕ) → j ≤ n → Suits t glob (i + d) (j + d) → Suits s glob i j
  suits_part Empty i j le h = omega (arith, h)
  suits_part (Single token) i j le h = token_part token i j le h
  suits_part (Then a b) i j le h =
      let low = suits_ordered t a (i + d) h.0 h.1 in
      let high = suits_ordered t b h.0 (j + d) h.2 in
      let back : h.0 ≡ (h.0 - d) + d = omega (arith, low) in
      (h.0 - d, suits_part a i (h.0 - d) (omega (arith, low, high)) (subst (Suits t a (i + d)) back h.1), suits_part b (h.0 - d) j le (subst (λ m. Suits t b m (j + d)) back h.2))
  suits_part (Either a b) i j le (inl h) = inl (suits_part a i j le h)
  suits_part (Either a b) i j le (inr h) = inr (suits_part b i j le h)

module _ (a b : Glob) where
  -- the first part and the rest
  parts_whole : (text : List ℕ) (k : ℕ) → k ≤ length text → GlobMatches a (take k text) → GlobMatches b (drop k text) → GlobMatches (Then a b) text
  parts_whole text k le first rest =
      let front = length-take-le k text le in
      let back = length-drop k text in
      let one = suits_whole (take k text) text 0 k (omega (arith, front)) (omega arith) (λ i lt. ap (λ m. slice_index_or text m 0) (omega arith) ∙ sym (get_or-take k text i 0 lt)) a 0 k (omega arith) (subst (Suits (take k text) a 0) front first) in
      let other = suits_whole (drop k text) text k (length text - k) (omega (arith, back)) (omega arith) (λ i lt. ap (λ m. slice_index_or text m 0) (omega arith) ∙ sym (get_or-drop k text i 0)) b 0 (length text - k) (omega arith) (subst (Suits (drop k text) b 0) back rest) in
      (k, subst (Suits text a 0) (omega arith) one, subst (λ i. Suits text b i (length text)) (omega arith) (subst (Suits text b (0 + k)) (omega arith) other))

  whole_parts : (text : List ℕ) → GlobMatches (Then a b) text → (k : ℕ) × (k ≤ length text) × GlobMatches a (take k text) × GlobMatches b (drop k text)
  whole_parts text h =
      let k = h.0 in
      let le : k ≤ length text = suits_ordered text b k (length text) h.2 in
      let front = length-take-le k text le in
      let back = length-drop k text in
      let one = suits_part (take k text) text 0 k (omega (arith, front)) (omega arith) (λ i lt. ap (λ m. slice_index_or text m 0) (omega arith) ∙ sym (get_or-take k text i 0 lt)) a 0 k (omega arith) (subst (Suits text a 0) (omega arith) h.1) in
      let other = suits_part (drop k text) text k (length text - k) (omega (arith, back)) (omega arith) (λ i lt. ap (λ m. slice_index_or text m 0) (omega arith) ∙ sym (get_or-drop k text i 0)) b 0 (length text - k) (omega arith) (subst (λ i. Suits text b i ((length text - k) + k)) (omega arith) (subst (Suits text b k) (omega arith) h.2)) in
      (k, le, subst (Suits (take k text) a 0) (sym front) one, subst (Suits (drop k text) b 0) (sym back) other)

module _ (P Q : List ℕ → Type 0) where
  split_at : (front back : List ℕ) (k : ℕ) → k ≤ length back → P (front ++ take k back) → Q (drop k back) → Splits P Q front back
  split_at front [] k le p q =
      let none : k ≡ 0 = omega arith in
      (subst P (append-nil front) (subst (λ i. P (front ++ take i [])) none p), subst (λ i. Q (drop i [])) none q)
  split_at front (c ∷ back) zero le p q = inl (subst P (append-nil front) p, q)
  split_at front (c ∷ back) (suc k) le p q =
      inr (split_at (front ++ c ∷ []) back k (omega arith) (subst P (sym (append_assoc front (c ∷ []) (take k back))) p) q)

  at_split : (front back : List ℕ) → Splits P Q front back → (k : ℕ) × (k ≤ length back) × P (front ++ take k back) × Q (drop k back)
  at_split front [] h = (0, omega arith, subst P (sym (append-nil front)) h.0, h.1)
  at_split front (c ∷ back) (inl h) = (0, omega arith, subst P (sym (append-nil front)) h.0, h.1)
  at_split front (c ∷ back) (inr h) =
      let w = at_split (front ++ c ∷ []) back h in
      (suc w.0, omega (arith, w.1), subst P (append_assoc front (c ∷ []) (take w.0 back)) w.2, w.3)

-- so each way to part a text is tried
pub splits_match : (a b : Glob) (text : List ℕ) → Splits (GlobMatches a) (GlobMatches b) [] text ↔ GlobMatches (Then a b) text
splits_match a b text = (
  λ h. let w = at_split (GlobMatches a) (GlobMatches b) [] text h in parts_whole a b text w.0 w.1 w.2 w.3,
  λ h. let w = whole_parts a b text h in split_at (GlobMatches a) (GlobMatches b) [] text w.0 w.1 w.2 w.3,
)

-- tokens before a glob are a part
tokens_first : (text : List ℕ) (tokens : List Token) (more : Glob) (i j : ℕ) → Suits text (tokens_then tokens more) i j ↔ Suits text (Then (tokens_then tokens Empty) more) i j
tokens_first text [] more i j = (λ h. (i, refl, h), λ h. subst (λ k. Suits text more k j) (sym h.1) h.2)
tokens_first text (token ∷ tokens) more i j = (
  λ h. let w = (tokens_first text tokens more h.0 j).0 h.2 in (w.0, (h.0, h.1, w.1), w.2),
  λ h. (h.1.0, h.1.1, (tokens_first text tokens more h.1.0 j).1 (h.0, h.1.2, h.2)),
)

pub tokens_before : (tokens : List Token) (more : Glob) (text : List ℕ) → GlobMatches (Then (tokens_then tokens Empty) more) text ↔ GlobMatches (tokens_then tokens more) text
tokens_before tokens more text = let w = tokens_first text tokens more 0 (length text) in (w.1, w.0)
