-- Filters that differ in their spans alone say the same.
use Rattle.std.proofs.Common.{◌≡◌, ◌↔◌, inl, inr, ⊎_elim, Bool, not, List, [], ◌∷◌, Contains, IsTrue, subst, is_some, string_bytes, map}
use Rattle.std.specs.Str.{chars}
use Rattle.std.specs.Str.Iter.{HasSubslice}
use Rattle.regex.specs.Patterns.{find_str}
use Rattle.regex.specs.Strings.{regex_pattern, regex_source}
use Rattle.list_facts.proofs.Membership.{Contains-map_cases}
use Rattle.workspace_record.specs.Records.{Text}
use Rattle.guppy_package_parts.specs.declared.dependency_direction.DependencyDirection.{DependencyDirection}
use Rattle.guppy_package_parts.specs.declared.dependency_direction.DependencyDirection.TheVariants as direction
use Rattle.nextest_filter_matchers.specs.Matchers.{matcher_of, tokens_of}
use Rattle.nextest_filter_matchers.specs.Globs.{GlobMatches}
use Rattle.nextest_filter_matchers.specs.declared.name_matcher.NameMatcher.{NameMatcher}
use Rattle.nextest_filter_matchers.specs.declared.name_matcher.NameMatcher.TheVariants as name
use Rattle.nextest_filter_matchers.specs.declared.source_span.SourceSpan.{SourceSpan}
use Rattle.nextest_filter_tokens.specs.declared.filterset_kind.FiltersetKind.{FiltersetKind}
use Rattle.nextest_filter_tokens.specs.declared.filterset_kind.FiltersetKind.TheVariants as kind
use Rattle.nextest_binaries.specs.declared.build_platform.BuildPlatform.{BuildPlatform}
use Rattle.nextest_filter_tokens.specs.declared.heads.Predicate.{Predicate}
use Rattle.nextest_filter_tokens.specs.declared.heads.Predicate.TheVariants as names
use Rattle.nextest_filter_syntax.specs.PatternsAsWritten.{IsMatcherAsWritten}
use Rattle.nextest_filter_syntax.proofs.PatternFacts.{patterns_alike}
use Rattle.nextest_filter_evaluation.specs.Groups.{known_groups}
use Rattle.nextest_filter_evaluation.specs.NameTests.{NameTest, Suits, SuitsOneOf, name_test}
use Rattle.nextest_binaries.specs.Queries as asked
use Rattle.nextest_filter_evaluation.specs.declared.groups.KnownGroups.{KnownGroups}
use Rattle.nextest_filter_evaluation.specs.Formulas.{Formula, negation, either, both, leaf, EachLeaf, Holds, SomeAnswersGive}
use Rattle.nextest_filter_evaluation.specs.Meaning.{Gives}
use Rattle.nextest_filtering.specs.Acceptance.{MatchesSome, ban_of}
use Rattle.nextest_filtering.specs.Contexts.{ContextValue, Leads}
use Rattle.nextest_filtering.specs.Filters.{FilterLeaf, Named, Platform, Default, All}
use Rattle.nextest_filtering.specs.Filters as filter
use Rattle.nextest_filtering.specs.Meaning.{FilterLeafHolds, FilterLeafGives, IsFeatured, IsMatched, IsReachedOf, LeadsAlong}
use Rattle.nextest_filtering.specs.SameFilters.{AreBytes, HasByteNames, HasSamePackages, IsByteBinary, SaysTheSame}
use Rattle.nextest_filtering.proofs.SameFacts.{gives_same, same}

-- two tests suit the same names
abbrev pub SuitAlike : NameTest → NameTest → Type 0
SuitAlike a b = (n : Text) → AreBytes n → Suits a n ↔ Suits b n

-- two matchers of one text suit alike, where their patterns are what their texts say
pub matchers_alike : (a b : NameMatcher) → matcher_of a ≡ matcher_of b → IsMatcherAsWritten a → IsMatcherAsWritten b → SuitAlike (name_test a) (name_test b)
matchers_alike (name.Equal v i) (name.Equal w j) e p q = let text : string_bytes v ≡ string_bytes w = cc in λ n bytes. subst (λ x. (string_bytes v ≡ n) ↔ (x ≡ n)) text (same (string_bytes v ≡ n))
matchers_alike (name.Equal v i) (name.Contains w j) e p q = absurd cc
matchers_alike (name.Equal v i) (name.Glob w j) e p q = absurd cc
matchers_alike (name.Equal v i) (name.Regex w) e p q = absurd cc
matchers_alike (name.Contains v i) (name.Equal w j) e p q = absurd cc
matchers_alike (name.Contains v i) (name.Contains w j) e p q = let text : string_bytes v ≡ string_bytes w = cc in λ n bytes. subst (λ x. Suits (name_test (name.Contains v i)) n ↔ HasSubslice n x) text (same (HasSubslice n (string_bytes v)))
matchers_alike (name.Contains v i) (name.Glob w j) e p q = absurd cc
matchers_alike (name.Contains v i) (name.Regex w) e p q = absurd cc
matchers_alike (name.Glob v i) (name.Equal w j) e p q = absurd cc
matchers_alike (name.Glob v i) (name.Contains w j) e p q = absurd cc
matchers_alike (name.Glob v i) (name.Glob w j) e p q = let tokens : tokens_of v ≡ tokens_of w = cc in λ n bytes. subst (λ x. GlobMatches (tokens_of v) (chars n) ↔ GlobMatches x (chars n)) tokens (same (GlobMatches (tokens_of v) (chars n)))
matchers_alike (name.Glob v i) (name.Regex w) e p q = absurd cc
matchers_alike (name.Regex v) (name.Equal w j) e p q = absurd cc
matchers_alike (name.Regex v) (name.Contains w j) e p q = absurd cc
matchers_alike (name.Regex v) (name.Glob w j) e p q = absurd cc
matchers_alike (name.Regex v) (name.Regex w) e p q =
    let text : regex_source v.value ≡ regex_source w.value = cc in
    λ n bytes. subst (λ b. IsTrue (is_some (find_str (regex_pattern v.value) n 0)) ↔ IsTrue b) (patterns_alike v.value w.value p q text n bytes) (same _)

-- leaves that differ in their spans, and in patterns that suit alike
pub data AlikeLeaf : FilterLeaf → FilterLeaf → Type 0 where
  named : (p : Predicate) (a b : NameTest) (s t : SourceSpan) → SuitAlike a b → AlikeLeaf (Named p a s) (Named p b t)
  platform : (x : BuildPlatform) (s t : SourceSpan) → AlikeLeaf (Platform x s) (Platform x t)
  of_default : (s t : SourceSpan) → AlikeLeaf (Default s) (Default t)
  all : AlikeLeaf All All
  none : AlikeLeaf filter.None filter.None

-- the same operators over such leaves
pub data AlikeFormula : Formula FilterLeaf → Formula FilterLeaf → Type 0 where
  negations : (f g : Formula FilterLeaf) → AlikeFormula f g → AlikeFormula (negation f) (negation g)
  eithers : (e f g h : Formula FilterLeaf) → AlikeFormula e g → AlikeFormula f h → AlikeFormula (either e f) (either g h)
  boths : (e f g h : Formula FilterLeaf) → AlikeFormula e g → AlikeFormula f h → AlikeFormula (both e f) (both g h)
  leaves : (l m : FilterLeaf) → AlikeLeaf l m → AlikeFormula (leaf l) (leaf m)

module _ (P Q : FilterLeaf → Type 0) (alike : (l m : FilterLeaf) → AlikeLeaf l m → P l ↔ Q m) where
  pub holds_alike : (f g : Formula FilterLeaf) → AlikeFormula f g → Holds P f ↔ Holds Q g
  holds_alike f g (negations a b h) = let k = holds_alike a b h in (λ n x. n (k.1 x), λ n x. n (k.0 x))
  holds_alike f g (eithers a b c d h i) =
      let j = holds_alike a c h in
      let k = holds_alike b d i in
      (λ s. ⊎_elim (λ x. inl (j.0 x)) (λ y. inr (k.0 y)) s, λ s. ⊎_elim (λ x. inl (j.1 x)) (λ y. inr (k.1 y)) s)
  holds_alike f g (boths a b c d h i) =
      let j = holds_alike a c h in
      let k = holds_alike b d i in
      (λ s. (j.0 s.0, k.0 s.1), λ s. (j.1 s.0, k.1 s.1))
  holds_alike f g (leaves l m h) = alike l m h

  each_alike : (f g : Formula FilterLeaf) → AlikeFormula f g → EachLeaf P f ↔ EachLeaf Q g
  each_alike f g (negations a b h) = each_alike a b h
  each_alike f g (eithers a b c d h i) = let j = each_alike a c h in let k = each_alike b d i in (λ s. (j.0 s.0, k.0 s.1), λ s. (j.1 s.0, k.1 s.1))
  each_alike f g (boths a b c d h i) = let j = each_alike a c h in let k = each_alike b d i in (λ s. (j.0 s.0, k.0 s.1), λ s. (j.1 s.0, k.1 s.1))
  each_alike f g (leaves l m h) = alike l m h

module _ (P Q : FilterLeaf → Bool → Type 0) (alike : (l m : FilterLeaf) → AlikeLeaf l m → (v : Bool) → P l v ↔ Q m v) where
  pub gives_alike : (f g : Formula FilterLeaf) → AlikeFormula f g → (v : Bool) → SomeAnswersGive P f v ↔ SomeAnswersGive Q g v
  gives_alike f g (negations a b h) v = gives_alike a b h (not v)
  gives_alike f g (eithers a b c d h i) v =
      let j = gives_alike a c h in
      let k = gives_alike b d i in
      (λ s. (s.0, s.1, (j s.0).0 s.2, (k s.1).0 s.3, s.4), λ s. (s.0, s.1, (j s.0).1 s.2, (k s.1).1 s.3, s.4))
  gives_alike f g (boths a b c d h i) v =
      let j = gives_alike a c h in
      let k = gives_alike b d i in
      (λ s. (s.0, s.1, (j s.0).0 s.2, (k s.1).0 s.3, s.4), λ s. (s.0, s.1, (j s.0).1 s.2, (k s.1).1 s.3, s.4))
  gives_alike f g (leaves l m h) v = alike l m h v

-- contexts with the same packages and paths name them alike
module _ (cx dx : ContextValue) (one : HasSamePackages cx dx) (byte_packages : (p : Text × Text) → Contains cx.packages p → AreBytes p.1) (byte_on : (f : Text × Text) → Contains cx.on f → AreBytes f.1) where
  leads_alike : (d : DependencyDirection) (start id : Text) → LeadsAlong d cx.graph start id ↔ LeadsAlong d dx.graph start id
  leads_alike direction.Forward start id = one.leads start id
  leads_alike direction.Reverse start id = one.leads id start

  module _ (a b : NameTest) (alike : SuitAlike a b) where
    matched_alike : (id : Text) → IsMatched cx a id ↔ IsMatched dx b id
    matched_alike id = (
      λ h. record { found = h.found; listed = (one.packages h.found).0 h.listed; suits = (alike h.found.1 (byte_packages h.found h.listed)).0 h.suits; is_its = h.is_its },
      λ h. let listed = (one.packages h.found).1 h.listed in record { found = h.found; listed = listed; suits = (alike h.found.1 (byte_packages h.found listed)).1 h.suits; is_its = h.is_its },
    )

    featured_alike : (id : Text) → IsFeatured cx a id ↔ IsFeatured dx b id
    featured_alike id = (
      λ h. record { found = h.found; listed = (one.packages h.found).0 h.listed; is_its = h.is_its; feature = h.feature; is_on = (one.on (id, h.feature)).0 h.is_on; suits = (alike h.feature (byte_on (id, h.feature) h.is_on)).0 h.suits },
      λ h. let on = (one.on (id, h.feature)).1 h.is_on in record { found = h.found; listed = (one.packages h.found).1 h.listed; is_its = h.is_its; feature = h.feature; is_on = on; suits = (alike h.feature (byte_on (id, h.feature) on)).1 h.suits },
    )

    reached_alike : (d : DependencyDirection) (id : Text) → IsReachedOf cx (IsMatched cx a) d id ↔ IsReachedOf dx (IsMatched dx b) d id
    reached_alike d id = (
      λ h. record { found = h.found; listed = (one.packages h.found).0 h.listed; is_its = h.is_its; start = h.start; starts_there = (matched_alike h.start).0 h.starts_there; leads = (leads_alike d h.start id).0 h.leads },
      λ h. record { found = h.found; listed = (one.packages h.found).1 h.listed; is_its = h.is_its; start = h.start; starts_there = (matched_alike h.start).1 h.starts_there; leads = (leads_alike d h.start id).1 h.leads },
    )

  module _ (member fellow : NameTest → Type 0) (members : (a b : NameTest) → SuitAlike a b → member a ↔ fellow b) (default fallback : Type 0) (defaults : default ↔ fallback) (t : asked.Test) (byte_binary : IsByteBinary t.binary) (byte_test : AreBytes t.name) where
    named_holds : (p : Predicate) (a b : NameTest) (s u : SourceSpan) → SuitAlike a b → FilterLeafHolds cx member default t (Named p a s) ↔ FilterLeafHolds dx fellow fallback t (Named p b u)
    named_holds names.Package a b s u alike = matched_alike a b alike t.binary.package_id
    named_holds names.Deps a b s u alike = reached_alike a b alike direction.Forward t.binary.package_id
    named_holds names.Rdeps a b s u alike = reached_alike a b alike direction.Reverse t.binary.package_id
    named_holds names.Kind a b s u alike = alike t.binary.kind byte_binary.kind
    named_holds names.Binary a b s u alike = alike t.binary.name byte_binary.name
    named_holds names.BinaryId a b s u alike = alike t.binary.id byte_binary.id
    named_holds names.Test a b s u alike = alike t.name byte_test
    named_holds names.Group a b s u alike = members a b alike
    named_holds names.Feature a b s u alike = featured_alike a b alike t.binary.package_id

    pub leaves_hold_alike : (l m : FilterLeaf) → AlikeLeaf l m → FilterLeafHolds cx member default t l ↔ FilterLeafHolds dx fellow fallback t m
    leaves_hold_alike l m (named p a b s u alike) = named_holds p a b s u alike
    leaves_hold_alike l m (platform x s u) = same (t.binary.platform ≡ x)
    leaves_hold_alike l m (of_default s u) = defaults
    leaves_hold_alike l m all = same (Unit {0})
    leaves_hold_alike l m none = same ⊥

  module _ (default fallback : Bool → Type 0) (defaults : (v : Bool) → default v ↔ fallback v) (b : asked.Binary) (byte_binary : IsByteBinary b) where
    named_gives : (p : Predicate) (x y : NameTest) (s u : SourceSpan) → SuitAlike x y → (v : Bool) → FilterLeafGives cx default b (Named p x s) v ↔ FilterLeafGives dx fallback b (Named p y u) v
    named_gives names.Package x y s u alike v = gives_same _ _ (matched_alike x y alike b.package_id) v
    named_gives names.Deps x y s u alike v = gives_same _ _ (reached_alike x y alike direction.Forward b.package_id) v
    named_gives names.Rdeps x y s u alike v = gives_same _ _ (reached_alike x y alike direction.Reverse b.package_id) v
    named_gives names.Kind x y s u alike v = gives_same _ _ (alike b.kind byte_binary.kind) v
    named_gives names.Binary x y s u alike v = gives_same _ _ (alike b.name byte_binary.name) v
    named_gives names.BinaryId x y s u alike v = gives_same _ _ (alike b.id byte_binary.id) v
    named_gives names.Test x y s u alike v = same (Unit {0})
    named_gives names.Group x y s u alike v = same (Unit {0})
    named_gives names.Feature x y s u alike v = gives_same _ _ (featured_alike x y alike b.package_id) v

    pub leaves_give_alike : (l m : FilterLeaf) → AlikeLeaf l m → (v : Bool) → FilterLeafGives cx default b l v ↔ FilterLeafGives dx fallback b m v
    leaves_give_alike l m (named p x y s u alike) v = named_gives p x y s u alike v
    leaves_give_alike l m (platform x s u) v = same (Gives (b.platform ≡ x) v)
    leaves_give_alike l m (of_default s u) v = defaults v
    leaves_give_alike l m all v = same (Gives (Unit {0}) v)
    leaves_give_alike l m none v = same (Gives ⊥ v)

module _ (cx : ContextValue) (byte_names : HasByteNames cx) where
  one_of_alike : (a b : NameTest) → SuitAlike a b → (ns : List Text) → ((n : Text) → Contains ns n → AreBytes n) → SuitsOneOf a ns ↔ SuitsOneOf b ns
  one_of_alike a b alike ns bytes = (
    λ h. record { name = h.name; listed = h.listed; suits = (alike h.name (bytes h.name h.listed)).0 h.suits },
    λ h. record { name = h.name; listed = h.listed; suits = (alike h.name (bytes h.name h.listed)).1 h.suits },
  )

  module _ (groups : KnownGroups) (byte_groups : (n : Text) → Contains (known_groups groups) n → AreBytes n) where
    package_names : (n : Text) → Contains (map (λ p. p.1) cx.packages) n → AreBytes n
    package_names n inside = let (p, listed, is) = Contains-map_cases (λ (x : Text × Text). x.1) cx.packages n inside in subst AreBytes is (byte_names.packages p listed)

    binary_names : (n : Text) → Contains (map (λ b. b.1) cx.binaries) n → AreBytes n
    binary_names n inside = let (b, listed, is) = Contains-map_cases (λ (x : Text × Text). x.1) cx.binaries n inside in subst AreBytes is (byte_names.binary_names b listed)

    binary_ids : (n : Text) → Contains (map (λ b. b.0) cx.binaries) n → AreBytes n
    binary_ids n inside = let (b, listed, is) = Contains-map_cases (λ (x : Text × Text). x.0) cx.binaries n inside in subst AreBytes is (byte_names.binary_ids b listed)

    named_match : (p : Predicate) (x y : NameTest) (s u : SourceSpan) → SuitAlike x y → MatchesSome cx groups (Named p x s) ↔ MatchesSome cx groups (Named p y u)
    named_match names.Package x y s u alike = one_of_alike x y alike _ package_names
    named_match names.Deps x y s u alike = one_of_alike x y alike _ package_names
    named_match names.Rdeps x y s u alike = one_of_alike x y alike _ package_names
    named_match names.Kind x y s u alike = same (Unit {0})
    named_match names.Binary x y s u alike = one_of_alike x y alike _ binary_names
    named_match names.BinaryId x y s u alike = one_of_alike x y alike _ binary_ids
    named_match names.Test x y s u alike = same (Unit {0})
    named_match names.Group x y s u alike = one_of_alike x y alike _ byte_groups
    named_match names.Feature x y s u alike = one_of_alike x y alike _ byte_names.features

    leaves_match_alike : (l m : FilterLeaf) → AlikeLeaf l m → MatchesSome cx groups l ↔ MatchesSome cx groups m
    leaves_match_alike l m (named p x y s u alike) = named_match p x y s u alike
    leaves_match_alike l m (platform x s u) = same (Unit {0})
    leaves_match_alike l m (of_default s u) = same (Unit {0})
    leaves_match_alike l m all = same (Unit {0})
    leaves_match_alike l m none = same (Unit {0})

-- a list of one fault is not empty
both_faulty : {X : Type 0} (a b : X) → (a ∷ [] ≡ []) ↔ (b ∷ [] ≡ [])
both_faulty a b = (λ e. absurd cc, λ e. absurd cc)

named_banned : (k : FiltersetKind) (p : Predicate) (x y : NameTest) (s u : SourceSpan) → (ban_of k (Named p x s) ≡ []) ↔ (ban_of k (Named p y u) ≡ [])
named_banned kind.Test p x y s u = same _
named_banned kind.TestArchive names.Package x y s u = same _
named_banned kind.TestArchive names.Deps x y s u = same _
named_banned kind.TestArchive names.Rdeps x y s u = same _
named_banned kind.TestArchive names.Kind x y s u = same _
named_banned kind.TestArchive names.Binary x y s u = same _
named_banned kind.TestArchive names.BinaryId x y s u = same _
named_banned kind.TestArchive names.Test x y s u = both_faulty _ _
named_banned kind.TestArchive names.Group x y s u = both_faulty _ _
named_banned kind.TestArchive names.Feature x y s u = same _
named_banned kind.OverrideFilter names.Package x y s u = same _
named_banned kind.OverrideFilter names.Deps x y s u = same _
named_banned kind.OverrideFilter names.Rdeps x y s u = same _
named_banned kind.OverrideFilter names.Kind x y s u = same _
named_banned kind.OverrideFilter names.Binary x y s u = same _
named_banned kind.OverrideFilter names.BinaryId x y s u = same _
named_banned kind.OverrideFilter names.Test x y s u = same _
named_banned kind.OverrideFilter names.Group x y s u = both_faulty _ _
named_banned kind.OverrideFilter names.Feature x y s u = same _
named_banned kind.DefaultFilter names.Package x y s u = same _
named_banned kind.DefaultFilter names.Deps x y s u = same _
named_banned kind.DefaultFilter names.Rdeps x y s u = same _
named_banned kind.DefaultFilter names.Kind x y s u = same _
named_banned kind.DefaultFilter names.Binary x y s u = same _
named_banned kind.DefaultFilter names.BinaryId x y s u = same _
named_banned kind.DefaultFilter names.Test x y s u = same _
named_banned kind.DefaultFilter names.Group x y s u = both_faulty _ _
named_banned kind.DefaultFilter names.Feature x y s u = same _

default_banned : (k : FiltersetKind) (s u : SourceSpan) → (ban_of k (Default s) ≡ []) ↔ (ban_of k (Default u) ≡ [])
default_banned kind.Test s u = same _
default_banned kind.TestArchive s u = same _
default_banned kind.OverrideFilter s u = same _
default_banned kind.DefaultFilter s u = both_faulty _ _

platform_banned : (k : FiltersetKind) (x : BuildPlatform) (s u : SourceSpan) → (ban_of k (Platform x s) ≡ []) ↔ (ban_of k (Platform x u) ≡ [])
platform_banned kind.Test x s u = same _
platform_banned kind.TestArchive x s u = same _
platform_banned kind.OverrideFilter x s u = same _
platform_banned kind.DefaultFilter x s u = same _

leaves_banned_alike : (k : FiltersetKind) (l m : FilterLeaf) → AlikeLeaf l m → (ban_of k l ≡ []) ↔ (ban_of k m ≡ [])
leaves_banned_alike k l m (named p x y s u alike) = named_banned k p x y s u
leaves_banned_alike k l m (platform x s u) = platform_banned k x s u
leaves_banned_alike k l m (of_default s u) = default_banned k s u
leaves_banned_alike k l m all = same _
leaves_banned_alike k l m none = same _

both_alike : (A B C D : Type 0) → A ↔ B → C ↔ D → (A × C) ↔ (B × D)
both_alike A B C D h k = (λ s. (h.0 s.0, k.0 s.1), λ s. (h.1 s.0, k.1 s.1))

-- a context has the packages and paths that it has
its_own : (cx : ContextValue) → HasSamePackages cx cx
its_own cx = record { packages = λ p. same (Contains cx.packages p); leads = λ a b. same (Leads cx.graph a b); on = λ f. same (Contains cx.on f) }

-- filters that differ in their spans, and in patterns that suit alike, say the same
pub alike_say_the_same : (f g : Formula FilterLeaf) → AlikeFormula f g → SaysTheSame f g
alike_say_the_same f g h = record {
  accepted = λ cx groups k byte_names byte_groups. each_alike _ _ (λ l m alike. both_alike _ _ _ _ (leaves_banned_alike k l m alike) (leaves_match_alike cx byte_names groups byte_groups l m alike)) f g h;
  holds = λ cx group default t byte_names byte_group byte_binary byte_test. holds_alike _ _ (leaves_hold_alike cx cx (its_own cx) byte_names.packages byte_names.on (λ m. Suits m group) (λ m. Suits m group) (λ a b alike. alike group byte_group) (IsTrue default) (IsTrue default) (same (IsTrue default)) t byte_binary byte_test) f g h;
  gives = λ cx default b v byte_names byte_binary. gives_alike _ _ (leaves_give_alike cx cx (its_own cx) byte_names.packages byte_names.on (λ x. IsTrue (default x)) (λ x. IsTrue (default x)) (λ x. same (IsTrue (default x))) b byte_binary) f g h v;
}
