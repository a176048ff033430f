-- Which names matchers match.
use Rattle.std.specs.Prelude.{◌≡◌, Bool, true, false, List, Contains, IsTrue, is_some, string_bytes}
use Rattle.std.specs.Str.{chars}
use Rattle.std.specs.Str.Iter.{HasSubslice}
use Rattle.regex.specs.Patterns.{Re, find_str}
use Rattle.regex.specs.Strings.{regex_pattern, regex_source}
use Rattle.workspace_record.specs.Records.{Text}
use Rattle.nextest_filter_matchers.specs.Globs as spec
use Rattle.nextest_filter_matchers.specs.Globs.{GlobMatches}
use Rattle.nextest_filter_matchers.specs.Matchers.{glob_text, tokens_of}
use Rattle.nextest_filter_matchers.specs.declared.name_matcher.NameMatcher.{NameMatcher}
use Rattle.nextest_filter_matchers.specs.declared.name_matcher.NameMatcher.TheVariants as name

-- a matcher with what it looks for: of a glob its tokens beside its text, of a pattern what `regex` made of its text
-- (from nextest's filtersets)
pub data NameTest : Type 0 where
  EqualTo : Text → Bool → NameTest
  Containing : Text → Bool → NameTest
  OfGlob : Text → spec.Glob → Bool → NameTest
  OfPattern : Text → Re → NameTest

-- what a matcher looks for (from nextest's filtersets)
abbrev pub name_test : NameMatcher → NameTest
name_test (name.Equal value implicit) = EqualTo (string_bytes value) implicit
name_test (name.Contains value implicit) = Containing (string_bytes value) implicit
name_test (name.Glob glob implicit) = OfGlob (glob_text glob) (tokens_of glob) implicit
name_test (name.Regex regex) = OfPattern (regex_source regex.value) (regex_pattern regex.value)

abbrev pub is_pattern : NameTest → Bool
is_pattern (EqualTo value implicit) = false
is_pattern (Containing value implicit) = false
is_pattern (OfGlob text glob implicit) = false
is_pattern (OfPattern text pattern) = true

-- the name is the text, contains it, matches the glob, or has the pattern in it (from nextest's filtersets)
abbrev pub Suits : NameTest → Text → Type 0
Suits (EqualTo value implicit) n = value ≡ n
Suits (Containing value implicit) n = HasSubslice n value
Suits (OfGlob text glob implicit) n = GlobMatches glob (chars n)
Suits (OfPattern text pattern) n = IsTrue (is_some (find_str pattern n 0))

-- one of the names suits (from nextest's filtersets)
pub record SuitsOneOf (test : NameTest) (names : List Text) : Type 0 where
  pub name : Text
  pub listed : Contains names name
  pub suits : Suits test name
