-- What suits tokens one after another suits the glob that they make.
use Rattle.std.proofs.Common.{◌≡◌, ℕ, zero, suc, ◌+◌, ◌-◌, ◌<◌, ◌≤◌, ◌⊎◌, ◌↔◌, inl, inr, Bool, true, false, List, [], ◌∷◌, drop, length, nat_eq, slice_index_or, refl, sym, ap, subst, arith}
use Rattle.std.proofs.lemmas.Bool.{cases_lt}
use Rattle.std.proofs.lemmas.List.{drop_all, drop_more, length-drop}
use Rattle.nextest_filter_matchers.specs.Globs.{CharacterSet, Token, Empty, One, AnyText, LeadingDirectories, InnerDirectories, TrailingDirectories, Character, GlobMatches, IsOne, IsSlash, IsText, IsDirectories, Suits, tokens_then}
use Rattle.nextest_filter_matchers.specs.Sequences.{IsBehind, IsOneAnd, SuitsTokens}

module _ (text : List ℕ) (Such : List ℕ → Type 0) where
  -- one character, and then what is such
  one_to : (set : CharacterSet) (i : ℕ) → IsOneAnd set Such (drop i text) → (j : ℕ) × IsOne text set i j × Such (drop j text)
  one_to set i h =
      elim (cases_lt i (length text)) [
        | inl lt ↦ let w = subst (IsOneAnd set Such) (drop_more text i 0 lt) h in (i + 1, (lt, w.0, refl), w.1)
        | inr ge ↦ absurd (subst (IsOneAnd set Such) (drop_all i text (omega (arith, ge))) h)
      ]

  one_back : (set : CharacterSet) (i j : ℕ) → IsOne text set i j → Such (drop j text) → IsOneAnd set Such (drop i text)
  one_back set i j is such =
      subst (IsOneAnd set Such) (sym (drop_more text i 0 is.0)) (is.1, subst (λ k. Such (drop k text)) is.2 such)

  -- any characters from a place on, or none if that may be
  text_to : (n i : ℕ) (here : Bool) → i + n ≡ length text → IsBehind false here Such (drop i text) → (j : ℕ) × IsText text i j × Such (drop j text)
  text_to zero i here e h =
      let over = drop_all i text (omega (arith, e)) in
      (i, (omega arith, omega (arith, e)), subst Such (sym over) (subst (IsBehind false here Such) over h).1)
  text_to (suc n) i here e h =
      elim (subst (IsBehind false here Such) (drop_more text i 0 (omega (arith, e))) h) [
        | inl w ↦ (i, (omega arith, omega (arith, e)), subst Such (sym (drop_more text i 0 (omega (arith, e)))) w.1)
        | inr w ↦ let v = text_to n (i + 1) true (omega (arith, e)) w in (v.0, (omega (arith, v.1.0), v.1.1), v.2)
      ]

  text_back : (n i j : ℕ) → i + n ≡ length text → IsText text i j → Such (drop j text) → IsBehind false true Such (drop i text)
  text_back zero i j e is such =
      let same : j ≡ i = omega (arith, e, is.0, is.1) in
      let over = drop_all i text (omega (arith, e)) in
      subst (IsBehind false true Such) (sym over) (refl, subst Such over (subst (λ k. Such (drop k text)) same such))
  text_back (suc n) i j e is such =
      let more = drop_more text i 0 (omega (arith, e)) in
      subst (IsBehind false true Such) (sym more) (elim (cases_lt i j) [
        | inl lt ↦ inr (text_back n (i + 1) j (omega (arith, e)) (omega (arith, lt), is.1) such)
        | inr ge ↦ let same : j ≡ i = omega (arith, ge, is.0) in inl (refl, subst Such more (subst (λ k. Such (drop k text)) same such))
      ])

  -- here, if that may be, or behind a slash
  abbrev Behind : ℕ → Bool → ℕ → Type 0
  Behind i here j = ((here ≡ true) × (j ≡ i)) ⊎ ((m : ℕ) × (i ≤ m) × IsSlash text m j)

  folders_to : (n i : ℕ) (here : Bool) → i + n ≡ length text → IsBehind true here Such (drop i text) → (j : ℕ) × Behind i here j × Such (drop j text)
  folders_to zero i here e h =
      let over = drop_all i text (omega (arith, e)) in
      let w = subst (IsBehind true here Such) over h in
      (i, inl (w.0, refl), subst Such (sym over) w.1)
  folders_to (suc n) i here e h =
      let lt : i < length text = omega (arith, e) in
      elim (subst (IsBehind true here Such) (drop_more text i 0 lt) h) [
        | inl w ↦ (i, inl (w.0, refl), subst Such (sym (drop_more text i 0 lt)) w.1)
        | inr w ↦
            let v = folders_to n (i + 1) (nat_eq (slice_index_or text i 0) 47) (omega (arith, e)) w in (
              v.0,
              elim v.1 [
                | inl a ↦ inr (i, omega arith, (lt, a.0, a.1))
                | inr b ↦ inr (b.0, omega (arith, b.1), b.2)
              ],
              v.2,
            )
      ]

  folders_back : (n i : ℕ) (here : Bool) (j : ℕ) → i + n ≡ length text → Behind i here j → Such (drop j text) → IsBehind true here Such (drop i text)
  folders_back zero i here j e (inl a) such =
      let over = drop_all i text (omega (arith, e)) in
      subst (IsBehind true here Such) (sym over) (a.0, subst Such over (subst (λ k. Such (drop k text)) a.1 such))
  folders_back zero i here j e (inr b) such = absurd (omega (arith, e, b.1, b.2.0))
  folders_back (suc n) i here j e (inl a) such =
      let more = drop_more text i 0 (omega (arith, e)) in
      subst (IsBehind true here Such) (sym more) (inl (a.0, subst Such more (subst (λ k. Such (drop k text)) a.1 such)))
  folders_back (suc n) i here j e (inr b) such =
      let more = drop_more text i 0 (omega (arith, e)) in
      let next = λ (at : Behind (i + 1) (nat_eq (slice_index_or text i 0) 47) j). folders_back n (i + 1) (nat_eq (slice_index_or text i 0) 47) j (omega (arith, e)) at such in
      subst (IsBehind true here Such) (sym more) (inr (next (elim (cases_lt i b.0) [
        | inl lt ↦ inr (b.0, omega (arith, lt), b.2)
        | inr ge ↦
            let same : b.0 ≡ i = omega (arith, ge, b.1) in
            inl (subst (λ k. nat_eq (slice_index_or text k 0) 47 ≡ true) same b.2.1, omega (arith, same, b.2.2))
      ])))

  folders_at : (i : ℕ) → i ≤ length text → IsBehind true true Such (drop i text) ↔ ((j : ℕ) × IsDirectories text i j × Such (drop j text))
  folders_at i le = (
    λ h.
        let w = folders_to (length text - i) i true (omega arith) h in (
          w.0,
          elim w.1 [
            | inl a ↦ inl (sym a.1)
            | inr b ↦ inr (b.0, (b.1, omega (arith, b.2.0)), b.2)
          ],
          w.2,
        ),
    λ w.
        folders_back (length text - i) i true w.0 (omega arith) (elim w.1 [
          | inl a ↦ inl (refl, sym a)
          | inr b ↦ inr (b.0, b.1.0, b.2)
        ]) w.2,
  )

  text_at : (i : ℕ) → i ≤ length text → IsBehind false true Such (drop i text) ↔ ((j : ℕ) × IsText text i j × Such (drop j text))
  text_at i le = (text_to (length text - i) i true (omega arith), λ w. text_back (length text - i) i w.0 (omega arith) w.1 w.2)

folders_end : (text : List ℕ) (i j : ℕ) → i ≤ length text → IsDirectories text i j → j ≤ length text
folders_end text i j le (inl a) = omega (arith, a)
folders_end text i j le (inr b) = omega (arith, b.2.0, b.2.2)

module _ (text : List ℕ) where
  -- from a place on, to the end
  suits_to : (tokens : List Token) (i : ℕ) → i ≤ length text → SuitsTokens tokens (drop i text) → Suits text (tokens_then tokens Empty) i (length text)
  suits_to [] i le h = omega (arith, ap length h, length-drop i text)
  suits_to (One set ∷ tokens) i le h =
      let w = one_to text (SuitsTokens tokens) set i h in
      (w.0, w.1, suits_to tokens w.0 (omega (arith, w.1.0, w.1.2)) w.2)
  suits_to (AnyText ∷ tokens) i le h =
      let w = (text_at text (SuitsTokens tokens) i le).0 h in
      (w.0, w.1, suits_to tokens w.0 w.1.1 w.2)
  suits_to (LeadingDirectories ∷ tokens) i le h =
      let w = (folders_at text (SuitsTokens tokens) i le).0 h in
      (w.0, w.1, suits_to tokens w.0 (folders_end text i w.0 le w.1) w.2)
  suits_to (InnerDirectories ∷ tokens) i le h =
      let v = one_to text (IsBehind true true (SuitsTokens tokens)) (Character 47) i h in
      let near : v.0 ≤ length text = omega (arith, v.1.0, v.1.2) in
      let w = (folders_at text (SuitsTokens tokens) v.0 near).0 v.2 in
      (w.0, (v.0, v.1, w.1), suits_to tokens w.0 (folders_end text v.0 w.0 near w.1) w.2)
  suits_to (TrailingDirectories ∷ tokens) i le h =
      let v = one_to text (IsBehind false true (SuitsTokens tokens)) (Character 47) i h in
      let w = (text_at text (SuitsTokens tokens) v.0 (omega (arith, v.1.0, v.1.2))).0 v.2 in
      (w.0, (v.0, v.1, w.1), suits_to tokens w.0 w.1.1 w.2)

  suits_back : (tokens : List Token) (i : ℕ) → i ≤ length text → Suits text (tokens_then tokens Empty) i (length text) → SuitsTokens tokens (drop i text)
  suits_back [] i le h = drop_all i text (omega (arith, h))
  suits_back (One set ∷ tokens) i le h =
      one_back text (SuitsTokens tokens) set i h.0 h.1 (suits_back tokens h.0 (omega (arith, h.1.0, h.1.2)) h.2)
  suits_back (AnyText ∷ tokens) i le h =
      (text_at text (SuitsTokens tokens) i le).1 (h.0, h.1, suits_back tokens h.0 h.1.1 h.2)
  suits_back (LeadingDirectories ∷ tokens) i le h =
      (folders_at text (SuitsTokens tokens) i le).1 (h.0, h.1, suits_back tokens h.0 (folders_end text i h.0 le h.1) h.2)
  suits_back (InnerDirectories ∷ tokens) i le h =
      let near : h.1.0 ≤ length text = omega (arith, h.1.1.0, h.1.1.2) in
      one_back text (IsBehind true true (SuitsTokens tokens)) (Character 47) i h.1.0 h.1.1
      ((folders_at text (SuitsTokens tokens) h.1.0 near).1 (h.0, h.1.2, suits_back tokens h.0 (folders_end text h.1.0 h.0 near h.1.2) h.2))
  suits_back (TrailingDirectories ∷ tokens) i le h =
      one_back text (IsBehind false true (SuitsTokens tokens)) (Character 47) i h.1.0 h.1.1
      ((text_at text (SuitsTokens tokens) h.1.0 (omega (arith, h.1.1.0, h.1.1.2))).1 (h.0, h.1.2, suits_back tokens h.0 h.1.2.1 h.2))

-- tokens suit a whole text exactly if their glob matches it
pub tokens_match : (tokens : List Token) (text : List ℕ) → SuitsTokens tokens text ↔ GlobMatches (tokens_then tokens Empty) text
tokens_match tokens text = (λ h. suits_to text tokens 0 (omega arith) h, λ h. suits_back text tokens 0 (omega arith) h)
