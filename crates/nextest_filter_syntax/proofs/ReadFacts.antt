-- Leaves and their parts are read in one way alone.
use Rattle.std.proofs.Common.{◌≡◌, ℕ, ◌+◌, ◌-◌, ◌<◌, ◌≤◌, ◌++◌, List, [], ◌∷◌, Option, Some, None, IfNone, length, refl, sym, ◌∙◌, ap, subst, arith, inl, inr}
use Rattle.std.proofs.lemmas.Bool.{false≢true, cases_lt}
use Rattle.nextest_filter_tokens.specs.Patterns.{ReadsPattern}
use Rattle.nextest_filter_tokens.specs.Texts.{ReadsText}
use Rattle.nextest_filter_tokens.proofs.TextFacts.{read_once}
use Rattle.nextest_filter_tokens.proofs.PatternFacts.{patterns_read_once}
use Rattle.nextest_filter_matchers.specs.declared.source_span.SourceSpan.{SourceSpan}
use Rattle.nextest_filter_tokens.specs.Bytes.{skip}
use Rattle.nextest_filter_tokens.specs.declared.heads.Predicate.{Predicate}
use Rattle.nextest_filter_syntax.specs.Leaves.{Leaf, Named}
use Rattle.nextest_filter_syntax.specs.LeafGrammar.{IsUpToClose, NamedFrom, PatternFrom, ReadsMatcher, ReadsSome, Stands, between, leaf_places, matcher_places}
use Rattle.nextest_filter_matchers.specs.Matchers.{Matcher}

-- what stands in any case stands where a part is spoiled
pub if_none : {A B : Type 0} (o : Option A) → B → IfNone o B
if_none (Some x) b = tt
if_none None b = b

-- a pattern that was refused, between its places
pub refused_at : {A B : Type 0} (olds news : List SourceSpan) (start end after : ℕ) (o : Option A) → end ≡ after → (news ≡ olds ++ between start after ∷ [] → B) → IfNone o (news ≡ olds ++ between start end ∷ []) → IfNone o B
refused_at olds news start end after (Some x) same gives refused = tt
refused_at olds news start end after None same gives refused =
    gives (subst (λ k. news ≡ olds ++ between start k ∷ []) same refused)

module _ (text : List ℕ) where
  -- a text that is read is the one that is not empty, if one is
  pub some_is : {i j k : ℕ} {xs ys : List ℕ} → ReadsText text i xs j → ReadsSome text i ys k → (xs ≡ ys) × (j ≡ k) × (0 < length xs)
  some_is {xs = xs} r (s, some) =
      let w = read_once text r s in
      (w.0, w.1, subst (λ zs. 0 < length zs) (sym w.0) some)

  -- a pattern that is read is the matcher's, if one is read
  pub pattern_is : {i j k : ℕ} {xs : List ℕ} {m : Matcher} → ReadsPattern text i xs j → PatternFrom text i m k → k ≡ j + 1
  pattern_is {i = i} {j = j} {xs = xs} r from =
      let w = patterns_read_once text i j from.end xs from.bytes r from.reads in
      from.after ∙ ap (λ n. n + 1) (sym w.1)

  -- there is one such place
  pub up_to_once : {i j k : ℕ} → IsUpToClose text i j → IsUpToClose text i k → j ≡ k
  up_to_once {i = i} {j = j} {k = k} p q =
      elim (cases_lt j k) [
        | inl lt ↦ absurd (false≢true (sym (q.plain j p.rises lt) ∙ p.stops (omega (arith, q.end))))
        | inr ge ↦
            elim (cases_lt k j) [
              | inl lt ↦ absurd (false≢true (sym (p.plain k q.rises lt) ∙ q.stops (omega (arith, p.end))))
              | inr le ↦ omega arith
            ]
      ]

  -- the leaf of a matcher that is read in parentheses
  pub named_is : (predicate : Predicate) (i inner start end j : ℕ) (m : Matcher) (l : Leaf SourceSpan) → Stands text i 40 inner → start ≡ skip text inner → ReadsMatcher text predicate start m end → Stands text end 41 j → l ≡ Named predicate m (between inner end) → NamedFrom text predicate i l j
  named_is predicate i inner start end j m l opens place reads closes is = record {
    matcher = m;
    inner = inner;
    end = end;
    opens = opens;
    reads = subst (λ k. ReadsMatcher text predicate k m end) place reads;
    closes = closes;
    is = is;
  }

  pub named_some : (predicate : Predicate) (i inner start end j : ℕ) (m : Matcher) (news olds : List SourceSpan) → inner ≤ end → Stands text i 40 inner → start ≡ skip text inner → ReadsMatcher text predicate start m end → Stands text end 41 j → news ≡ olds ++ matcher_places m start end → (l : Leaf SourceSpan) × NamedFrom text predicate i l j × (news ≡ olds ++ leaf_places text l)
  named_some predicate i inner start end j m news olds rises opens place reads closes refused =
      let leaf = Named predicate m (between inner end) in
      let last : end ≡ inner + (end - inner) = omega (arith, rises) in
      let at = subst (λ k. news ≡ olds ++ matcher_places m k end) place refused in
      (leaf, named_is predicate i inner start end j m leaf opens place reads closes refl, subst (λ k. news ≡ olds ++ matcher_places m (skip text inner) k) last at)
