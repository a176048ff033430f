-- Texts that begin with a mark, and texts cut at its first or last place.
use Rattle.std.proofs.Common.{◌≡◌, ℕ, suc, ◌<◌, ◌≤◌, Bool, true, false, cond, [], ◌∷◌, ◌++◌, length, take, drop, nat_eq, Some, None, refl, sym, ◌∙◌, ap, arith}
use Rattle.std.specs.List.{starts_with}
use Rattle.std.specs.Option.{option_or}
use Rattle.std.specs.Cmp.Lexicographic.{bytes_decides}
use Rattle.std.specs.Str.Pattern.{LacksTextAt, FindsText, RFindsText, SplitsAroundMatch}
use Rattle.std.proofs.lemmas.List.{take-append-drop}
use Rattle.std.proofs.Math.Seq.{take-append_seam, drop-append_seam}
use Rattle.workspace_record.specs.Records.{Text}
use Rattle.guppy_package_parts.specs.Sources.{split_here, one_before, first_split, last_split}

module _ (mark : Text) where
  -- a text that begins with the mark passes the test
  pub starts_with-append : (rest : Text) → starts_with nat_eq (mark ++ rest) mark ≡ true
  starts_with-append rest = (bytes_decides mark (take (length mark) (mark ++ rest))).1 (sym (take-append_seam mark rest))

  -- a text that passes the test begins with the mark
  pub front_from_test : (text : Text) → starts_with nat_eq text mark ≡ true → text ≡ mark ++ drop (length mark) text
  front_from_test text h =
      sym (take-append-drop (length mark) text) ∙ ap (λ front. front ++ drop (length mark) text) (sym ((bytes_decides mark (take (length mark) text)).0 h))

  test_fails : (text : Text) (b : Bool) → b ≡ starts_with nat_eq text mark → LacksTextAt mark text 0 → b ≡ false
  test_fails text true e lacks = absurd (lacks (drop (length mark) text) (front_from_test text (sym e)))
  test_fails text false e lacks = refl

  pub split_here-append : (rest : Text) → split_here mark (mark ++ rest) ≡ Some ([], rest)
  split_here-append rest =
      ap (λ b. cond b (Some ([], drop (length mark) (mark ++ rest))) None) (starts_with-append rest) ∙ ap (λ t. Some ([], t)) (drop-append_seam mark rest)

  pub split_here-none : (text : Text) → LacksTextAt mark text 0 → split_here mark text ≡ None
  split_here-none text lacks =
      ap (λ b. cond b (Some ([], drop (length mark) text)) None) (test_fails text (starts_with nat_eq text mark) refl lacks)

  split_here-at : (text rest : Text) → text ≡ mark ++ rest → split_here mark text ≡ Some ([], rest)
  split_here-at text rest e = ap (split_here mark) e ∙ split_here-append rest

  -- the first place of the mark
  pub first_split-at : (text before after : Text) → text ≡ before ++ (mark ++ after) → ((i : ℕ) → i < length before → LacksTextAt mark text i) → first_split mark text ≡ Some (before, after)
  first_split-at [] [] after e lacks = split_here-at [] after e
  first_split-at (b ∷ text) [] after e lacks =
      ap (λ o. option_or o (one_before b (first_split mark text))) (split_here-at (b ∷ text) after e)
  first_split-at [] (x ∷ before) after e lacks = cc
  first_split-at (b ∷ text) (x ∷ before) after e lacks =
      let rest : text ≡ before ++ (mark ++ after) = cc in
      let same : b ≡ x = cc in
      ap (λ o. option_or o (one_before b (first_split mark text))) (split_here-none (b ∷ text) (lacks 0 (omega arith))) ∙ ap (one_before b) (first_split-at text before after rest (λ i lt. lacks (suc i) (omega arith))) ∙ ap (λ c. Some (c ∷ before, after)) same

  -- the mark stands nowhere
  pub first_split-none : (text : Text) → ((i : ℕ) → i ≤ length text → LacksTextAt mark text i) → first_split mark text ≡ None
  first_split-none [] lacks = split_here-none [] (lacks 0 (omega arith))
  first_split-none (b ∷ text) lacks =
      ap (λ o. option_or o (one_before b (first_split mark text))) (split_here-none (b ∷ text) (lacks 0 (omega arith))) ∙ ap (one_before b) (first_split-none text (λ i le. lacks (suc i) (omega arith)))

  pub last_split-none : (text : Text) → ((i : ℕ) → i ≤ length text → LacksTextAt mark text i) → last_split mark text ≡ None
  last_split-none [] lacks = split_here-none [] (lacks 0 (omega arith))
  last_split-none (b ∷ text) lacks =
      ap (λ o. option_or (one_before b o) (split_here mark (b ∷ text))) (last_split-none text (λ i le. lacks (suc i) (omega arith))) ∙ split_here-none (b ∷ text) (lacks 0 (omega arith))

  -- the last place of the mark
  pub last_split-at : (text before after : Text) → text ≡ before ++ (mark ++ after) → ((i : ℕ) → length before < i → i ≤ length text → LacksTextAt mark text i) → last_split mark text ≡ Some (before, after)
  last_split-at [] [] after e lacks = split_here-at [] after e
  last_split-at (b ∷ text) [] after e lacks =
      ap (λ o. option_or (one_before b o) (split_here mark (b ∷ text))) (last_split-none text (λ i le. lacks (suc i) (omega arith) (omega arith))) ∙ split_here-at (b ∷ text) after e
  last_split-at [] (x ∷ before) after e lacks = cc
  last_split-at (b ∷ text) (x ∷ before) after e lacks =
      let rest : text ≡ before ++ (mark ++ after) = cc in
      let same : b ≡ x = cc in
      ap (λ o. option_or (one_before b o) (split_here mark (b ∷ text))) (last_split-at text before after rest (λ i lt le. lacks (suc i) (omega arith) (omega arith))) ∙ ap (λ c. Some (c ∷ before, after)) same

  -- what `split_once` and `rsplit_once` say of the parts
  pub first_split-from_parts : (text before after : Text) → SplitsAroundMatch (FindsText mark) text before after → (first_split mark text ≡ Some (before, after)) × (text ≡ before ++ (mark ++ after))
  first_split-from_parts text before after h =
      let whole : text ≡ before ++ (mark ++ after) = cc (take-append-drop h.0 text, h.2.1.split, h.3, h.4) in
      (first_split-at text before after whole (λ i lt. h.2.0 i (omega (arith, h.6))), whole)

  pub last_split-from_parts : (text before after : Text) → SplitsAroundMatch (RFindsText mark) text before after → (last_split mark text ≡ Some (before, after)) × (text ≡ before ++ (mark ++ after))
  last_split-from_parts text before after h =
      let whole : text ≡ before ++ (mark ++ after) = cc (take-append-drop h.0 text, h.2.1.split, h.3, h.4) in
      (last_split-at text before after whole (λ i lt le. h.2.0 i (omega (arith, h.6)) le), whole)
