-- Pairs of texts that ascend from neighbour to neighbour.
use Rattle.std.proofs.Common.{◌≡◌, ◌∙◌, ℕ, ◌+◌, ◌<◌, true, false, true≢false, List, [], ◌∷◌, String, refl, sym, subst, length, get_or, map, arith}
use Rattle.std.specs.Cmp.Lexicographic.{bytes_decides, texts_ties}
use Rattle.std.specs.declared.cmp.Ordering.{Ordering}
use Rattle.std.specs.declared.cmp.Ordering.TheVariants.{Less, Equal, Greater}
use Rattle.std.specs.Global.{Global}
use Rattle.std.specs.List.Sorted.{IsStrictlySortedBy}
use Rattle.std.specs.Ordering.{is_eq, is_lt, ordering_then}
use Rattle.std.specs.Str.{bytes_eq}
use Rattle.std.proofs.lemmas.List.{get_or-map, length-map}
use Rattle.std.proofs.lemmas.Map.Keys.{sorted_from_all_adjacent}
use Rattle.list_facts.specs.Ascending.{pair_cmp, text_cmp}
use Rattle.list_facts.specs.Texts.{pair_of}
use Rattle.list_facts.proofs.Ascending.{pair_total, text_exact}
use Rattle.workspace_record.specs.Records.{Text}

-- pairs with one first text stand to each other as their second texts do
pub below_same : (a b x y : Text) → bytes_eq a b ≡ true → is_lt (text_cmp x y) ≡ is_lt (pair_cmp (a, x) (b, y))
below_same a b x y same = by (text_cmp a b) (sym (texts_ties a b) ∙ same)
  where
    by : (o : Ordering) → is_eq o ≡ true → is_lt (text_cmp x y) ≡ is_lt (ordering_then o (text_cmp x y))
    by Less e = absurd (true≢false (sym e))
    by Equal e = refl
    by Greater e = absurd (true≢false (sym e))

-- others as their first texts do
pub below_apart : (a b x y : Text) → bytes_eq a b ≡ false → is_lt (text_cmp a b) ≡ is_lt (pair_cmp (a, x) (b, y))
below_apart a b x y apart = by (text_cmp a b) refl
  where
    by : (o : Ordering) → text_cmp a b ≡ o → is_lt o ≡ is_lt (ordering_then o (text_cmp x y))
    by Less e = refl
    by Equal e = absurd (true≢false (sym ((bytes_decides a b).1 (text_exact a b e)) ∙ apart))
    by Greater e = refl

pub lt_is_less : (o : Ordering) → is_lt o ≡ true → o ≡ Less
lt_is_less Less e = refl
lt_is_less Equal e = absurd (true≢false (sym e))
lt_is_less Greater e = absurd (true≢false (sym e))

-- where each pair is below the next, the pairs ascend
pub ascending_by_neighbours : (pairs : List (String Global × String Global)) → ((k : ℕ) (d : String Global × String Global) → k + 1 < length pairs → pair_cmp (pair_of (get_or pairs k d)) (pair_of (get_or pairs (k + 1) d)) ≡ Less) → IsStrictlySortedBy pair_cmp (map pair_of pairs)
ascending_by_neighbours [] h = sorted_from_all_adjacent pair_total [] ([], []) (λ k lt. absurd (omega (arith, lt)))
ascending_by_neighbours (p ∷ ps) h =
    sorted_from_all_adjacent pair_total (map pair_of (p ∷ ps)) (pair_of p) (λ k lt.
    let within : k + 1 < length (p ∷ ps) = subst (λ n. k + 1 < n) (length-map (p ∷ ps) pair_of) lt in
    rw (get_or-map pair_of (p ∷ ps) k p (pair_of p) (omega (arith, within)), get_or-map pair_of (p ∷ ps) (k + 1) p (pair_of p) within) (h k p within))
