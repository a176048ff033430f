-- The grammar of leaves, between two places of a text.
use Rattle.std.specs.Prelude.{◌≡◌, ℕ, ◌+◌, ◌-◌, ◌<◌, ◌≤◌, Bool, true, false, List, [], ◌∷◌, length, Option, Some, None, Result, Ok, Err, slice_range, if◌then◌else◌}
use Rattle.std.specs.Str.{chars, trim}
use Rattle.nextest_filter_matchers.specs.declared.source_span.SourceSpan.{SourceSpan}
use Rattle.nextest_filter_matchers.specs.declared.glob_error.GlobError.{GlobError}
use Rattle.nextest_filter_matchers.specs.Globs.{Glob}
use Rattle.nextest_filter_matchers.specs.GlobReading.{read_glob}
use Rattle.nextest_filter_matchers.specs.Matchers as m
use Rattle.nextest_filter_matchers.specs.Matchers.{Matcher}
use Rattle.nextest_binaries.specs.Platforms.{platform_text}
use Rattle.nextest_binaries.specs.declared.build_platform.BuildPlatform.{BuildPlatform}
use Rattle.nextest_filter_tokens.specs.Bytes.{is_byte, skip}
use Rattle.nextest_filter_tokens.specs.Heads.{head_at}
use Rattle.nextest_filter_tokens.specs.Patterns.{ReadsPattern}
use Rattle.nextest_filter_tokens.specs.declared.heads.Head.{Head}
use Rattle.nextest_filter_tokens.specs.declared.heads.Head.TheVariants as head
use Rattle.nextest_filter_tokens.specs.declared.heads.Predicate.{Predicate}
use Rattle.nextest_filter_tokens.specs.declared.heads.Predicate.TheVariants.{Package, Deps, Rdeps, Kind, Binary, BinaryId, Test, Group, Feature}
use Rattle.nextest_filter_tokens.specs.declared.heads.Nullary.{Nullary}
use Rattle.nextest_filter_tokens.specs.declared.heads.Nullary.TheVariants as nullary
use Rattle.nextest_filter_tokens.specs.Texts.{ReadsText}
use Rattle.nextest_filter_syntax.specs.declared.signs.Style.{Style}
use Rattle.nextest_filter_syntax.specs.declared.signs.Style.TheVariants.{Equal, Contains, Glob as Globs}
use Rattle.nextest_filter_syntax.specs.declared.signs.Sign.{Sign}
use Rattle.nextest_filter_syntax.specs.declared.signs.Sign.TheVariants.{Slash, Says, Bare}
use Rattle.nextest_filter_syntax.specs.Leaves.{Leaf, Named, Platform, Default, All, None as Nothing}

-- the part of a text between two places
abbrev pub between : ℕ → ℕ → SourceSpan
between i j = record { offset = i; len = j - i }

-- after blanks the byte stands, and j is the place after it
abbrev pub Stands : List ℕ → ℕ → ℕ → ℕ → Type 0
Stands text i c j = (is_byte text (skip text i) c ≡ true) × (j ≡ skip text i + 1)

-- j is the place of the first closing parenthesis from i on, or else the end
pub record IsUpToClose (text : List ℕ) (i j : ℕ) : Type 0 where
  pub rises : i ≤ j
  pub end : j ≤ length text
  pub plain : (k : ℕ) → i ≤ k → k < j → is_byte text k 41 ≡ false
  pub stops : j < length text → is_byte text j 41 ≡ true

-- what a matcher begins with
unfoldable pub sign_at : List ℕ → ℕ → Sign
sign_at text i =
    if is_byte text i 47 then Slash else (if is_byte text i 35 then Says Globs else (if is_byte text i 61 then Says Equal else (if is_byte text i 126 then Says Contains else Bare)))

-- what a text without a sign says of names (from nextest's reference of filtersets)
abbrev pub default_style : Predicate → Style
default_style Test = Contains
default_style Kind = Equal
default_style Package = Globs
default_style Deps = Globs
default_style Rdeps = Globs
default_style Binary = Globs
default_style BinaryId = Globs
default_style Group = Globs
default_style Feature = Globs

abbrev pub glob_made : Bool → List ℕ → Result Glob GlobError → Option Matcher
glob_made implicit text (Ok tokens) = Some (m.Glob text tokens implicit)
glob_made implicit text (Err error) = None

-- the matcher that a text makes; a text that is no glob makes none (from nextest's reference of filtersets)
abbrev pub made_of : Style → Bool → List ℕ → Option Matcher
made_of Equal implicit text = Some (m.Equal text implicit)
made_of Contains implicit text = Some (m.Contains text implicit)
made_of Globs implicit text = glob_made implicit text (read_glob (chars text))

abbrev pub nullary_leaf : Nullary → SourceSpan → Leaf SourceSpan
nullary_leaf nullary.Default span = Default span
nullary_leaf nullary.All span = All
nullary_leaf nullary.None span = Nothing

-- where the pattern of a matcher lies that stands between two places: between its slashes; others have none
abbrev pub matcher_places : Matcher → ℕ → ℕ → List SourceSpan
matcher_places (m.Regex pattern) i j = between (i + 1) (j - 1) ∷ []
matcher_places (m.Equal value implicit) i j = []
matcher_places (m.Contains value implicit) i j = []
matcher_places (m.Glob value tokens implicit) i j = []

-- where the pattern of a leaf lies, after the blanks behind its parenthesis
abbrev pub leaf_places : List ℕ → Leaf SourceSpan → List SourceSpan
leaf_places text (Named predicate matcher span) =
    matcher_places matcher (skip text span.offset) (span.offset + span.len)
leaf_places text (Platform platform span) = []
leaf_places text (Default span) = []
leaf_places text All = []
leaf_places text Nothing = []

module _ (text : List ℕ) where
  -- a text that is not empty
  abbrev pub ReadsSome : ℕ → List ℕ → ℕ → Type 0
  ReadsSome i xs j = ReadsText text i xs j × (0 < length xs)

  -- a text and the matcher that it makes (from nextest's reference of filtersets)
  pub record TextFrom (style : Style) (implicit : Bool) (i : ℕ) (matcher : Matcher) (j : ℕ) : Type 0 where
    pub bytes : List ℕ
    pub reads : ReadsSome i bytes j
    pub makes : made_of style implicit bytes ≡ Some matcher

  -- a pattern and the slash that ends it (from nextest's reference of filtersets)
  pub record PatternFrom (i : ℕ) (matcher : Matcher) (j : ℕ) : Type 0 where
    pub bytes : List ℕ
    pub end : ℕ
    pub reads : ReadsPattern text i bytes end
    pub is : matcher ≡ m.Regex bytes
    pub after : j ≡ end + 1

  -- a matcher, by the sign that it begins with
  abbrev pub MatcherBy : Predicate → ℕ → Matcher → ℕ → Sign → Type 0
  MatcherBy predicate i matcher j Slash = PatternFrom (i + 1) matcher j
  MatcherBy predicate i matcher j (Says style) = TextFrom style false (i + 1) matcher j
  MatcherBy predicate i matcher j Bare = TextFrom (default_style predicate) true i matcher j

  -- a matcher by its sign; a glob has to be readable (from nextest's reference of filtersets)
  abbrev pub ReadsMatcher : Predicate → ℕ → Matcher → ℕ → Type 0
  ReadsMatcher predicate i matcher j = MatcherBy predicate i matcher j (sign_at text i)

  -- after a name: a matcher in parentheses (from nextest's reference of filtersets)
  pub record NamedFrom (predicate : Predicate) (i : ℕ) (leaf : Leaf SourceSpan) (j : ℕ) : Type 0 where
    pub matcher : Matcher
    pub inner : ℕ
    pub end : ℕ
    pub opens : Stands text i 40 inner
    pub reads : ReadsMatcher predicate (skip text inner) matcher end
    pub closes : Stands text end 41 j
    pub is : leaf ≡ Named predicate matcher (between inner end)

  -- after `platform`: in parentheses a text which, trimmed of white space, names a platform
  -- (from nextest's reference of filtersets)
  pub record PlatformFrom (i : ℕ) (leaf : Leaf SourceSpan) (j : ℕ) : Type 0 where
    pub platform : BuildPlatform
    pub bytes : List ℕ
    pub inner : ℕ
    pub end : ℕ
    pub opens : Stands text i 40 inner
    pub reads : ReadsSome (skip text inner) bytes end
    pub names : trim bytes ≡ platform_text platform
    pub closes : Stands text end 41 j
    pub is : leaf ≡ Platform platform (between inner end)

  -- after the word that begins at start: parentheses with white space alone (from nextest's reference of filtersets)
  pub record NullaryFrom (word : Nullary) (start i : ℕ) (leaf : Leaf SourceSpan) (j : ℕ) : Type 0 where
    pub inner : ℕ
    pub end : ℕ
    pub opens : Stands text i 40 inner
    pub up_to : IsUpToClose text inner end
    pub white : trim (slice_range text inner end) ≡ []
    pub closes : Stands text end 41 j
    pub is : leaf ≡ nullary_leaf word (between start j)

  -- a leaf, by the name that it begins with
  abbrev pub LeafBy : ℕ → Leaf SourceSpan → ℕ → Head → Type 0
  LeafBy i leaf j (head.Names predicate n) = NamedFrom predicate n leaf j
  LeafBy i leaf j (head.Platform n) = PlatformFrom n leaf j
  LeafBy i leaf j (head.Says word n) = NullaryFrom word i n leaf j
  LeafBy i leaf j (head.Negates op n) = ⊥
  LeafBy i leaf j (head.Opens n) = ⊥
  LeafBy i leaf j (head.Misplaces op n) = ⊥
  LeafBy i leaf j head.Unknown = ⊥

  -- a leaf by the name that it begins with (from nextest's reference of filtersets)
  abbrev pub ReadsLeaf : ℕ → Leaf SourceSpan → ℕ → Type 0
  ReadsLeaf i leaf j = LeafBy i leaf j (head_at text i)
