-- A leaf reads back from what is printed of it.
use Rattle.std.proofs.Common.{◌≡◌, ℕ, ◌+◌, ◌-◌, ◌<◌, Bool, true, false, not, ◌&&◌, List, [], ◌∷◌, ◌++◌, length, codes, nat_eq, drop, take, slice_range, add-zero, append_assoc, refl, sym, ◌∙◌, ap, subst, arith}
use Rattle.std.proofs.lemmas.Bool.{and_parts, cond-true, cond-false, not-true}
use Rattle.std.proofs.lemmas.List.{length-append}
use Rattle.std.specs.Char.{encode_utf8}
use Rattle.std.specs.Str.{chars, trim, trim_end, trim_start}
use Rattle.nextest_filter_matchers.specs.declared.source_span.SourceSpan.{SourceSpan}
use Rattle.nextest_filter_matchers.specs.Matchers.{Matcher}
use Rattle.nextest_filter_matchers.specs.Printing.{matcher_text}
use Rattle.nextest_binaries.specs.Platforms.{platform_text}
use Rattle.nextest_binaries.specs.declared.build_platform.BuildPlatform.{BuildPlatform}
use Rattle.nextest_binaries.specs.declared.build_platform.BuildPlatform.TheVariants.{Host, Target}
use Rattle.nextest_filter_tokens.specs.Bytes.{byte, has_word, is_byte, skip}
use Rattle.nextest_filter_tokens.proofs.BlankFacts.{byte_within}
use Rattle.nextest_filter_tokens.specs.Heads.{head_at, plain_set_at}
use Rattle.nextest_filter_tokens.specs.declared.heads.Head.TheVariants as head
use Rattle.nextest_filter_tokens.specs.declared.heads.Predicate.{Predicate}
use Rattle.nextest_filter_tokens.specs.declared.heads.Predicate.TheVariants.{Package, Deps, Rdeps, Kind, Binary, BinaryId, Test, Group, Feature}
use Rattle.nextest_filter_tokens.specs.declared.heads.Nullary.{Nullary}
use Rattle.nextest_filter_tokens.specs.declared.heads.Nullary.TheVariants as nullary
use Rattle.nextest_filter_tokens.specs.Texts.{ReadsText, ended, is_plain, is_text_end, plain}
use Rattle.nextest_filter_syntax.specs.Leaves.{Leaf, Named, Platform, Default, All, None, leaf_of}
use Rattle.nextest_filter_syntax.specs.LeafTexts.{leaf_text, predicate_name}
use Rattle.nextest_filter_syntax.specs.LeafGrammar.{IsUpToClose, LeafBy, NamedFrom, NullaryFrom, PlatformFrom, ReadsLeaf, ReadsMatcher, ReadsSome, Stands, between, nullary_leaf}
use Rattle.nextest_filter_syntax.specs.declared.parsed_leaf.ParsedLeaf.{ParsedLeaf}
use Rattle.nextest_filter_syntax.specs.declared.parsed_leaf.ParsedLeaf.TheVariants as leaf
use Rattle.nextest_filter_laws.specs.Printable.{IsPrintableLeaf, IsPrintableMatcher}
use Rattle.nextest_filter_laws.specs.Laws.{bare_leaf}
use Rattle.nextest_filter_laws.proofs.WordFacts.{byte_is, clash, first_byte, first_part, other_word, rest_word, second_part, skip_none, stands_here}
use Rattle.nextest_filter_laws.proofs.TextBack.{goes_on}
use Rattle.nextest_filter_laws.proofs.MatcherBack.{IsMade, matcher_back, matcher_made, sign_end}

-- the texts of a leaf are UTF-8
abbrev pub IsMadeLeaf : {S : Type 0} → Leaf S → Type 0
IsMadeLeaf (Named predicate matcher span) = IsMade matcher
IsMadeLeaf _ = Unit {0}

pub leaf_made : {S : Type 0} (l : ParsedLeaf S) → IsMadeLeaf (leaf_of l)
leaf_made (leaf.Package matcher span) = matcher_made matcher
leaf_made (leaf.Deps matcher span) = matcher_made matcher
leaf_made (leaf.Rdeps matcher span) = matcher_made matcher
leaf_made (leaf.Kind matcher span) = matcher_made matcher
leaf_made (leaf.Binary matcher span) = matcher_made matcher
leaf_made (leaf.BinaryId matcher span) = matcher_made matcher
leaf_made (leaf.Platform platform span) = tt
leaf_made (leaf.Test matcher span) = matcher_made matcher
leaf_made (leaf.Group matcher span) = matcher_made matcher
leaf_made (leaf.Feature matcher span) = matcher_made matcher
leaf_made (leaf.Default span) = tt
leaf_made leaf.All = tt
leaf_made leaf.None = tt

trim_platform : (p : BuildPlatform) → trim (platform_text p) ≡ platform_text p
unfolding trim_end trim_start chars encode_utf8
trim_platform Host = refl
trim_platform Target = refl

-- no comma, no parenthesis that closes and no backslash
abbrev is_letter : ℕ → Bool
is_letter c = not (nat_eq c 41) && (not (nat_eq c 44) && not (nat_eq c 92))

abbrev are_letters : List ℕ → Bool
are_letters [] = true
are_letters (c ∷ word) = is_letter c && are_letters word

module _ (text : List ℕ) where
  -- another word than the one that stands there
  not_there : (known : List ℕ) (i : ℕ) → has_word text i known ≡ true → (word : List ℕ) → clash known word ≡ true → has_word text i word ≡ false
  not_there known i h word differ = other_word text known word i h differ

  head_named : (predicate : Predicate) (i : ℕ) → has_word text i (predicate_name predicate ++ codes "(") ≡ true → head_at text i ≡ head.Names predicate (i + length (predicate_name predicate))
  unfolding head_at
  head_named Package i h = cond-true _ _ _ (first_part text (codes "package") (codes "(") i h)
  head_named Deps i h =
      let other = not_there (codes "deps(") i h in
      cond-false _ _ _ (other (codes "package") refl) ∙ cond-true _ _ _ (first_part text (codes "deps") (codes "(") i h)
  head_named Rdeps i h =
      let other = not_there (codes "rdeps(") i h in
      cond-false _ _ _ (other (codes "package") refl) ∙ cond-false _ _ _ (other (codes "deps") refl) ∙ cond-true _ _ _ (first_part text (codes "rdeps") (codes "(") i h)
  head_named Kind i h =
      let other = not_there (codes "kind(") i h in
      cond-false _ _ _ (other (codes "package") refl) ∙ cond-false _ _ _ (other (codes "deps") refl) ∙ cond-false _ _ _ (other (codes "rdeps") refl) ∙ cond-true _ _ _ (first_part text (codes "kind") (codes "(") i h)
  head_named BinaryId i h =
      let other = not_there (codes "binary_id(") i h in
      cond-false _ _ _ (other (codes "package") refl) ∙ cond-false _ _ _ (other (codes "deps") refl) ∙ cond-false _ _ _ (other (codes "rdeps") refl) ∙ cond-false _ _ _ (other (codes "kind") refl) ∙ cond-true _ _ _ (first_part text (codes "binary_id") (codes "(") i h)
  head_named Binary i h =
      let other = not_there (codes "binary(") i h in
      cond-false _ _ _ (other (codes "package") refl) ∙ cond-false _ _ _ (other (codes "deps") refl) ∙ cond-false _ _ _ (other (codes "rdeps") refl) ∙ cond-false _ _ _ (other (codes "kind") refl) ∙ cond-false _ _ _ (other (codes "binary_id") refl) ∙ cond-true _ _ _ (first_part text (codes "binary") (codes "(") i h)
  head_named Test i h =
      let other = not_there (codes "test(") i h in
      cond-false _ _ _ (other (codes "package") refl) ∙ cond-false _ _ _ (other (codes "deps") refl) ∙ cond-false _ _ _ (other (codes "rdeps") refl) ∙ cond-false _ _ _ (other (codes "kind") refl) ∙ cond-false _ _ _ (other (codes "binary_id") refl) ∙ cond-false _ _ _ (other (codes "binary") refl) ∙ cond-true _ _ _ (first_part text (codes "test") (codes "(") i h)
  head_named Group i h =
      let other = not_there (codes "group(") i h in
      cond-false _ _ _ (other (codes "package") refl) ∙ cond-false _ _ _ (other (codes "deps") refl) ∙ cond-false _ _ _ (other (codes "rdeps") refl) ∙ cond-false _ _ _ (other (codes "kind") refl) ∙ cond-false _ _ _ (other (codes "binary_id") refl) ∙ cond-false _ _ _ (other (codes "binary") refl) ∙ cond-false _ _ _ (other (codes "test") refl) ∙ cond-true _ _ _ (first_part text (codes "group") (codes "(") i h)
  head_named Feature i h =
      let other = not_there (codes "feature(") i h in
      cond-false _ _ _ (other (codes "package") refl) ∙ cond-false _ _ _ (other (codes "deps") refl) ∙ cond-false _ _ _ (other (codes "rdeps") refl) ∙ cond-false _ _ _ (other (codes "kind") refl) ∙ cond-false _ _ _ (other (codes "binary_id") refl) ∙ cond-false _ _ _ (other (codes "binary") refl) ∙ cond-false _ _ _ (other (codes "test") refl) ∙ cond-false _ _ _ (other (codes "group") refl) ∙ cond-true _ _ _ (first_part text (codes "feature") (codes "(") i h)

  -- no name of a predicate with a matcher
  pub not_named : (known : List ℕ) (i : ℕ) → has_word text i known ≡ true → clash known (codes "package") ≡ true → clash known (codes "deps") ≡ true → clash known (codes "rdeps") ≡ true → clash known (codes "kind") ≡ true → clash known (codes "binary_id") ≡ true → clash known (codes "binary") ≡ true → clash known (codes "test") ≡ true → clash known (codes "group") ≡ true → clash known (codes "feature") ≡ true → head_at text i ≡ plain_set_at text i
  unfolding head_at
  not_named known i h a b c d e f g k l =
      let other = not_there known i h in
      cond-false _ _ _ (other (codes "package") a) ∙ cond-false _ _ _ (other (codes "deps") b) ∙ cond-false _ _ _ (other (codes "rdeps") c) ∙ cond-false _ _ _ (other (codes "kind") d) ∙ cond-false _ _ _ (other (codes "binary_id") e) ∙ cond-false _ _ _ (other (codes "binary") f) ∙ cond-false _ _ _ (other (codes "test") g) ∙ cond-false _ _ _ (other (codes "group") k) ∙ cond-false _ _ _ (other (codes "feature") l)

  head_platform : (i : ℕ) → has_word text i (codes "platform(") ≡ true → head_at text i ≡ head.Platform (i + 8)
  unfolding plain_set_at
  head_platform i h =
      not_named (codes "platform(") i h refl refl refl refl refl refl refl refl refl ∙ cond-true _ _ _ (first_part text (codes "platform") (codes "(") i h)

  abbrev nullary_name : Nullary → List ℕ
  nullary_name nullary.Default = codes "default"
  nullary_name nullary.All = codes "all"
  nullary_name nullary.None = codes "none"

  head_nullary : (word : Nullary) (i : ℕ) → has_word text i (nullary_name word ++ codes "()") ≡ true → head_at text i ≡ head.Says word (i + length (nullary_name word))
  unfolding plain_set_at
  head_nullary nullary.Default i h =
      let other = not_there (codes "default()") i h in
      not_named (codes "default()") i h refl refl refl refl refl refl refl refl refl ∙ cond-false _ _ _ (other (codes "platform") refl) ∙ cond-true _ _ _ (first_part text (codes "default") (codes "()") i h)
  head_nullary nullary.All i h =
      let other = not_there (codes "all()") i h in
      not_named (codes "all()") i h refl refl refl refl refl refl refl refl refl ∙ cond-false _ _ _ (other (codes "platform") refl) ∙ cond-false _ _ _ (other (codes "default") refl) ∙ cond-true _ _ _ (first_part text (codes "all") (codes "()") i h)
  head_nullary nullary.None i h =
      let other = not_there (codes "none()") i h in
      not_named (codes "none()") i h refl refl refl refl refl refl refl refl refl ∙ cond-false _ _ _ (other (codes "platform") refl) ∙ cond-false _ _ _ (other (codes "default") refl) ∙ cond-false _ _ _ (other (codes "all") refl) ∙ cond-true _ _ _ (first_part text (codes "none") (codes "()") i h)

  -- a leaf is read, which is the printed one but for its span
  abbrev pub IsLeafBack : {S : Type 0} → ℕ → Leaf S → ℕ → Type 0
  IsLeafBack i l j = (m : Leaf SourceSpan) × (bare_leaf m ≡ bare_leaf l) × ReadsLeaf text i m j

  named_back : {S : Type 0} (predicate : Predicate) (matcher : Matcher) (span : S) (i : ℕ) → IsPrintableMatcher predicate matcher → IsMade matcher → has_word text i (leaf_text (Named predicate matcher span)) ≡ true → IsLeafBack i (Named predicate matcher span) (i + length (leaf_text (Named predicate matcher span)))
  named_back predicate matcher span i printable made h =
      let name = predicate_name predicate in
      let inside = matcher_text matcher in
      let opens = second_part text name _ i h in
      let word = (and_parts (is_byte text (i + length name) 40) _ opens).1 in
      let inner = (i + length name) + 1 in
      let end = inner + length inside in
      let closes = first_byte text 41 [] end (second_part text inside (codes ")") inner word) in
      let read = matcher_back text predicate matcher inner printable made (first_part text inside (codes ")") inner word) closes in
      let size : i + length (leaf_text (Named predicate matcher span)) ≡ end + 1 = omega (arith, length-append name (codes "(" ++ (inside ++ codes ")")), length-append inside (codes ")")) in
      let whole : NamedFrom text predicate (i + length name) (Named predicate matcher (between inner end)) (end + 1) = record {
        matcher = matcher;
        inner = inner;
        end = end;
        opens = stands_here text (i + length name) 40 (and_parts (is_byte text (i + length name) 40) _ opens).0 refl;
        reads = subst (λ k. ReadsMatcher text predicate k matcher end) (sym read.0) read.1;
        closes = stands_here text end 41 closes refl;
        is = refl;
      } in
      let begins = subst (λ w. has_word text i w ≡ true) (sym (append_assoc name (codes "(") (inside ++ codes ")"))) h in
      let head_is = head_named predicate i (first_part text (name ++ codes "(") (inside ++ codes ")") i begins) in
      let reads = subst (LeafBy text i (Named predicate matcher (between inner end)) (end + 1)) (sym head_is) whole in
      (Named predicate matcher (between inner end), refl, subst (λ k. ReadsLeaf text i (Named predicate matcher (between inner end)) k) (sym size) reads)

  -- letters alone, up to the end of a text
  letters_read : (word : List ℕ) (i : ℕ) → are_letters word ≡ true → has_word text i word ≡ true → is_text_end text (i + length word) ≡ true → ReadsText text i word (i + length word)
  letters_read [] i letters h end = subst (λ k. ReadsText text i [] k) (sym (add-zero i)) (ended (subst (λ k. is_text_end text k ≡ true) (add-zero i) end))
  letters_read (c ∷ word) i letters h end =
      let parts = and_parts (is_letter c) _ letters in
      let here = first_byte text c word i h in
      let same : i + length (c ∷ word) ≡ (i + 1) + length word = omega arith in
      let rest = letters_read word (i + 1) parts.1 (rest_word text c word i h) (subst (λ k. is_text_end text k ≡ true) same end) in
      let a = and_parts _ _ parts.0 in
      let b = and_parts _ _ a.1 in
      let stands : is_plain text i ≡ true = rw (goes_on text i c here (not-true _ a.0) (not-true _ b.0), byte_is text i c here, not-true _ b.1) refl in
      subst (λ b. ReadsText text i (b ∷ word) (i + length (c ∷ word))) (byte_is text i c here) (subst (λ k. ReadsText text i (byte text i ∷ word) k) (sym same) (plain stands rest))

  platform_letters : (p : BuildPlatform) → are_letters (platform_text p) ≡ true
  platform_letters Host = refl
  platform_letters Target = refl

  platform_solid : (p : BuildPlatform) (i : ℕ) → has_word text i (platform_text p) ≡ true → skip text i ≡ i
  platform_solid Host i h = skip_none text i 104 (and_parts (is_byte text i 104) _ h).0 refl
  platform_solid Target i h = skip_none text i 116 (and_parts (is_byte text i 116) _ h).0 refl

  platform_some : (p : BuildPlatform) → 0 < length (platform_text p)
  platform_some Host = omega arith
  platform_some Target = omega arith

  platform_back : {S : Type 0} (p : BuildPlatform) (span : S) (i : ℕ) → has_word text i (leaf_text (Platform p span)) ≡ true → IsLeafBack i (Platform p span) (i + length (leaf_text (Platform p span)))
  platform_back p span i h =
      let word = platform_text p in
      let inner = i + 9 in
      let end = inner + length word in
      let inside = second_part text (codes "platform(") _ i h in
      let begins = first_part text (codes "platform(") _ i h in
      let closes = first_byte text 41 [] end (second_part text word (codes ")") inner inside) in
      let name = first_part text word (codes ")") inner inside in
      let size : i + length (leaf_text (Platform p span)) ≡ end + 1 = omega (arith, length-append word (codes ")")) in
      let open_is : (i + 8) + 1 ≡ inner = omega arith in
      let opens = stands_here text (i + 8) 40 (first_byte text 40 [] (i + 8) (second_part text (codes "platform") (codes "(") i begins)) refl in
      let whole : PlatformFrom text (i + 8) (Platform p (between inner end)) (end + 1) = record {
        platform = p;
        bytes = word;
        inner = inner;
        end = end;
        opens = subst (λ k. Stands text (i + 8) 40 k) open_is opens;
        reads = subst (λ k. ReadsSome text k word end) (sym (platform_solid p inner name)) (letters_read word inner (platform_letters p) name (sign_end text end closes), platform_some p);
        names = trim_platform p;
        closes = stands_here text end 41 closes refl;
        is = refl;
      } in
      let reads = subst (LeafBy text i (Platform p (between inner end)) (end + 1)) (sym (head_platform i begins)) whole in
      (Platform p (between inner end), refl, subst (λ k. ReadsLeaf text i (Platform p (between inner end)) k) (sym size) reads)

  nothing_between : (i : ℕ) → trim (slice_range text i i) ≡ []
  unfolding trim_end trim_start chars
  nothing_between i =
      let none : i - i ≡ 0 = omega arith in
      ap (λ n. trim (take n (drop i text))) none

  -- the first closing parenthesis is at once there
  up_to_here : (i : ℕ) → i < length text → is_byte text i 41 ≡ true → IsUpToClose text i i
  up_to_here i inside closes = record {
    rises = omega arith;
    end = omega (arith, inside);
    plain = λ k low high. absurd (omega (arith, low, high));
    stops = λ _. closes;
  }

  nullary_back : (word : Nullary) (i : ℕ) → has_word text i (nullary_name word ++ codes "()") ≡ true → (m : Leaf SourceSpan) × (m ≡ nullary_leaf word (between i (i + length (nullary_name word ++ codes "()")))) × ReadsLeaf text i m (i + length (nullary_name word ++ codes "()"))
  nullary_back word i h =
      let name = nullary_name word in
      let opening = i + length name in
      let inner = opening + 1 in
      let after = second_part text name (codes "()") i h in
      let closes = first_byte text 41 [] inner (and_parts (is_byte text opening 40) _ after).1 in
      let inside = byte_within text inner 41 closes in
      let size : i + length (name ++ codes "()") ≡ inner + 1 = omega (arith, length-append name (codes "()")) in
      let whole : NullaryFrom text word i opening (nullary_leaf word (between i (inner + 1))) (inner + 1) = record {
        inner = inner;
        end = inner;
        opens = stands_here text opening 40 (and_parts (is_byte text opening 40) _ after).0 refl;
        up_to = up_to_here inner inside closes;
        white = nothing_between inner;
        closes = stands_here text inner 41 closes refl;
        is = refl;
      } in
      let l = nullary_leaf word (between i (inner + 1)) in
      let reads = subst (LeafBy text i l (inner + 1)) (sym (head_nullary word i h)) whole in
      (l, ap (λ k. nullary_leaf word (between i k)) (sym size), subst (λ k. ReadsLeaf text i l k) (sym size) reads)

  pub leaf_back : {S : Type 0} (l : Leaf S) (i : ℕ) → IsPrintableLeaf l → IsMadeLeaf l → has_word text i (leaf_text l) ≡ true → IsLeafBack i l (i + length (leaf_text l))
  leaf_back (Named predicate matcher span) i printable made h = named_back predicate matcher span i printable made h
  leaf_back (Platform p span) i printable made h = platform_back p span i h
  leaf_back (Default span) i printable made h = let w = nullary_back nullary.Default i h in (w.0, ap bare_leaf w.1, w.2)
  leaf_back All i printable made h = let w = nullary_back nullary.All i h in (w.0, ap bare_leaf w.1, w.2)
  leaf_back None i printable made h = let w = nullary_back nullary.None i h in (w.0, ap bare_leaf w.1, w.2)
