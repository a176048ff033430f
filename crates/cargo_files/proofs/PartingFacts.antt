-- How the words of a text are cut off it, piece by piece.
use Rattle.std.proofs.Common.{◌≡◌, ℕ, ◌<◌, Bool, true, false, Option, Some, None, List, [], ◌∷◌, ◌++◌, filter, take, drop, sym, ap, ◌∙◌, subst, refl, arith}
use Rattle.std.proofs.lemmas.Bool.{true≢false}
use Rattle.std.proofs.lemmas.List.{append_assoc, append-nil, take-append-drop}
use Rattle.std.proofs.lemmas.List.Elements.{filter-append}
use Rattle.std.proofs.lemmas.Str.{len_utf8_bounds}
use Rattle.std.specs.Option.{MatchOption}
use Rattle.std.specs.Str.{NoCharPasses}
use Rattle.std.specs.Str.Pattern.{FindsBy, IsSplitAtFirstMatch}
use Rattle.workspace_record.specs.Records.{Text}
use Rattle.cargo_files.specs.Parting.{ArePieces, AreWords, AreWordsOf, IsCut, is_word, parts_words}

-- the pieces seen are those of the text before the rest, if there is one, and else all
pub record CutSoFar (text : Text) (more : Bool) (rest : Text) (seen : List Text) : Type 0 where
  pub going : more ≡ true → (left : List Text) → ArePieces rest left → ArePieces text (seen ++ left)
  pub done : more ≡ false → ArePieces text seen

-- nothing is seen yet
pub nothing_cut : (text : Text) (more : Bool) (rest : Text) → more ≡ true → rest ≡ text → CutSoFar text more rest []
nothing_cut text more rest is_more is_text = record {
  going = λ e left pieces. subst (λ t. ArePieces t left) is_text pieces;
  done = λ e. absurd (true≢false (sym is_more ∙ e));
}

-- pieces behind one that was cut off
behind : (text piece rest : Text) (left : List Text) → IsCut text piece rest → ArePieces rest left → ArePieces text (piece ∷ left)
behind text piece rest [] cut none = absurd none
behind text piece rest (next ∷ left) cut pieces = (rest, cut, pieces)

-- the piece before a comma or a blank is cut off
is_cut : (text : Text) (q : ℕ × ℕ) → FindsBy parts_words text (Some q) → IsCut text (take q.0 text) (drop q.1 text)
is_cut text q found = record {
  whole = found.0;
  mark = found.1.0;
  parts = found.1.1;
  cut = sym (take-append-drop q.0 text) ∙ ap (λ t. take q.0 text ++ t) found.1.2.split;
}

module _ (M : (ℕ → Bool) → Type 0) (text left : Text) (seen : List Text) (going : (p : List Text) → ArePieces left p → ArePieces text (seen ++ p)) where
  by_match : (piece rest : Text) (more : Bool) (o : Option (ℕ × ℕ)) → FindsBy parts_words left o
      → MatchOption o ((piece ≡ left) × (more ≡ false)) (λ q. 0 < q.1 → (piece ≡ take q.0 left) × (more ≡ true) × (rest ≡ drop q.1 left))
      → CutSoFar text more rest (seen ++ piece ∷ [])
  by_match piece rest more None found last = record {
    going = λ e. absurd (true≢false (sym e ∙ last.1));
    done = λ e. going (piece ∷ []) (sym last.0, subst (λ t. NoCharPasses parts_words t) (sym last.0) found);
  }
  by_match piece rest more (Some q) found at =
      let cut = at (omega (arith, found.1.2.ends, (len_utf8_bounds found.1.0).0)) in
      let off = subst (λ t. IsCut left piece t) (sym cut.2) (subst (λ t. IsCut left t (drop q.1 left)) (sym cut.0) (is_cut left q found)) in
      record {
        going = λ e p pieces. subst (λ ps. ArePieces text ps) (sym (append_assoc seen (piece ∷ []) p)) (going (piece ∷ p) (behind left piece rest p off pieces));
        done = λ e. absurd (true≢false (sym cut.1 ∙ e));
      }

  -- one more piece is cut off
  pub cut_next : (piece rest : Text) (more : Bool) → M parts_words → IsSplitAtFirstMatch (λ w o. (k : ℕ → Bool) → M k → FindsBy k w o) left piece more rest → CutSoFar text more rest (seen ++ piece ∷ [])
  cut_next piece rest more matches split = by_match piece rest more split.1.0 (split.1.1 parts_words matches) split.1.2

-- the words kept of the pieces seen, with one more
pub kept_next : (kept new old : List Text) (seen : List Text) (piece : Text) → kept ≡ old ++ filter is_word seen → new ≡ kept ++ filter is_word (piece ∷ []) → new ≡ old ++ filter is_word (seen ++ piece ∷ [])
kept_next kept new old seen piece so_far more =
    more ∙ ap (λ t. t ++ filter is_word (piece ∷ [])) so_far ∙ append_assoc old (filter is_word seen) (filter is_word (piece ∷ [])) ∙ ap (λ t. old ++ t) (sym (filter-append is_word seen (piece ∷ [])))

-- the words of one more text stand behind those of the texts before it
pub words_push : (texts : List Text) (words : List Text) (text : Text) (own : List Text) → AreWordsOf texts words → AreWords text own → AreWordsOf (texts ++ text ∷ []) (words ++ own)
words_push [] words text own none are = (own, [], are, refl, ap (λ t. t ++ own) none ∙ sym (append-nil own))
words_push (t ∷ texts) words text own (first, others, are_first, are_others, both) are =
    (first, others ++ own, are_first, words_push texts others text own are_others are, ap (λ t. t ++ own) both ∙ append_assoc first others own)
