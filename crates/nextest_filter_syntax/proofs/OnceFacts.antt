-- A leaf is read in one way alone.
use Rattle.std.proofs.Common.{◌≡◌, ℕ, ◌+◌, Bool, List, Some, nat_eq, slice_index_or, refl, sym, ◌∙◌, ap, subst}
use Rattle.std.proofs.lemmas.Bool.{false≢true}
use Rattle.std.specs.Str.{trim}
use Rattle.nextest_filter_matchers.specs.Matchers.{Matcher}
use Rattle.nextest_filter_matchers.specs.declared.source_span.SourceSpan.{SourceSpan}
use Rattle.nextest_binaries.specs.Platforms.{platform_text}
use Rattle.nextest_binaries.specs.declared.build_platform.BuildPlatform.{BuildPlatform}
use Rattle.nextest_binaries.specs.declared.build_platform.BuildPlatform.TheVariants.{Host, Target}
use Rattle.nextest_filter_tokens.specs.Bytes.{skip}
use Rattle.nextest_filter_tokens.specs.Heads.{head_at}
use Rattle.nextest_filter_tokens.specs.declared.heads.Head.{Head}
use Rattle.nextest_filter_tokens.specs.declared.heads.Head.TheVariants as head
use Rattle.nextest_filter_tokens.specs.declared.heads.Nullary.{Nullary}
use Rattle.nextest_filter_tokens.specs.declared.heads.Predicate.{Predicate}
use Rattle.nextest_filter_tokens.proofs.PatternFacts.{patterns_read_once}
use Rattle.nextest_filter_syntax.specs.declared.signs.Style.{Style}
use Rattle.nextest_filter_syntax.specs.declared.signs.Sign.{Sign}
use Rattle.nextest_filter_syntax.specs.declared.signs.Sign.TheVariants.{Slash, Says, Bare}
use Rattle.nextest_filter_syntax.specs.Leaves.{Leaf, Named, Platform}
use Rattle.nextest_filter_syntax.specs.LeafGrammar.{IsUpToClose, LeafBy, MatcherBy, NamedFrom, NullaryFrom, PatternFrom, PlatformFrom, ReadsMatcher, ReadsSome, TextFrom, between, made_of, nullary_leaf, sign_at}
use Rattle.nextest_filter_syntax.specs.LeafLaws.{LeavesReadOnce}
use Rattle.nextest_filter_syntax.proofs.ReadFacts.{some_is, up_to_once}

platform_once : (p q : BuildPlatform) → platform_text p ≡ platform_text q → p ≡ q
platform_once Host Host e = refl
platform_once Target Target e = refl
platform_once Host Target e =
    absurd (false≢true (sym (ap (λ xs. nat_eq (slice_index_or xs 0 0) 104) e)))
platform_once Target Host e =
    absurd (false≢true (ap (λ xs. nat_eq (slice_index_or xs 0 0) 104) e))

module _ (text : List ℕ) where
  text_once : {style : Style} {implicit : Bool} {i j k : ℕ} {m n : Matcher} → TextFrom text style implicit i m j → TextFrom text style implicit i n k → (m ≡ n) × (j ≡ k)
  text_once {style = style} {implicit = implicit} {m = m} {n = n} p q =
      let same = some_is text p.reads.0 q.reads in
      let makes : made_of style implicit q.bytes ≡ Some m = subst (λ xs. made_of style implicit xs ≡ Some m) same.0 p.makes in
      let other = q.makes in
      (cc, same.1)

  pattern_once : {i j k : ℕ} {m n : Matcher} → PatternFrom text i m j → PatternFrom text i n k → (m ≡ n) × (j ≡ k)
  pattern_once {i = i} p q =
      let w = patterns_read_once text i p.end q.end p.bytes q.bytes p.reads q.reads in
      let matcher = rw (sym w.0) at q.is in
      let after = rw (sym w.1) at q.after in
      (p.is ∙ sym matcher, p.after ∙ sym after)

  matcher_once : (s : Sign) (predicate : Predicate) (i : ℕ) {j k : ℕ} {m n : Matcher} → MatcherBy text predicate i m j s → MatcherBy text predicate i n k s → (m ≡ n) × (j ≡ k)
  matcher_once Slash predicate i p q = pattern_once p q
  matcher_once (Says style) predicate i p q = text_once p q
  matcher_once Bare predicate i p q = text_once p q

  named_once : {predicate : Predicate} {i j k : ℕ} {l m : Leaf SourceSpan} → NamedFrom text predicate i l j → NamedFrom text predicate i m k → (l ≡ m) × (j ≡ k)
  named_once {predicate = predicate} p q =
      let inner : q.inner ≡ p.inner = q.opens.1 ∙ sym p.opens.1 in
      let reads = subst (λ n. ReadsMatcher text predicate (skip text n) q.matcher q.end) inner q.reads in
      let same = matcher_once (sign_at text (skip text p.inner)) predicate (skip text p.inner) p.reads reads in
      let leaf : Named predicate p.matcher (between p.inner p.end) ≡ Named predicate q.matcher (between q.inner q.end) = rw (same.0, same.1, inner) refl in
      (p.is ∙ leaf ∙ sym q.is, p.closes.1 ∙ ap (λ n. skip text n + 1) same.1 ∙ sym q.closes.1)

  platform_set_once : {i j k : ℕ} {l m : Leaf SourceSpan} → PlatformFrom text i l j → PlatformFrom text i m k → (l ≡ m) × (j ≡ k)
  platform_set_once p q =
      let inner : q.inner ≡ p.inner = q.opens.1 ∙ sym p.opens.1 in
      let reads = subst (λ n. ReadsSome text (skip text n) q.bytes q.end) inner q.reads in
      let same = some_is text p.reads.0 reads in
      let platform = platform_once p.platform q.platform (sym p.names ∙ ap trim same.0 ∙ q.names) in
      let leaf : Platform p.platform (between p.inner p.end) ≡ Platform q.platform (between q.inner q.end) = rw (platform, same.1, inner) refl in
      (p.is ∙ leaf ∙ sym q.is, p.closes.1 ∙ ap (λ n. skip text n + 1) same.1 ∙ sym q.closes.1)

  nullary_once : {word : Nullary} {start i j k : ℕ} {l m : Leaf SourceSpan} → NullaryFrom text word start i l j → NullaryFrom text word start i m k → (l ≡ m) × (j ≡ k)
  nullary_once {word = word} {start = start} p q =
      let inner : q.inner ≡ p.inner = q.opens.1 ∙ sym p.opens.1 in
      let end = up_to_once text p.up_to (subst (λ n. IsUpToClose text n q.end) inner q.up_to) in
      let after = p.closes.1 ∙ ap (λ n. skip text n + 1) end ∙ sym q.closes.1 in
      (p.is ∙ ap (λ n. nullary_leaf word (between start n)) after ∙ sym q.is, after)

  leaf_once : (h : Head) (i : ℕ) {j k : ℕ} {l m : Leaf SourceSpan} → LeafBy text i l j h → LeafBy text i m k h → (l ≡ m) × (j ≡ k)
  leaf_once (head.Names predicate n) i p q = named_once p q
  leaf_once (head.Platform n) i p q = platform_set_once p q
  leaf_once (head.Says word n) i p q = nullary_once p q
  leaf_once (head.Negates op n) i p q = absurd p
  leaf_once (head.Opens n) i p q = absurd p
  leaf_once (head.Misplaces op n) i p q = absurd p
  leaf_once head.Unknown i p q = absurd p

pub leaves_read_once : LeavesReadOnce
leaves_read_once text i j k l m p q = leaf_once text (head_at text i) i p q
