-- What copies have in common with what they are copies of.
use Rattle.std.specs.Prelude.{◌≡◌, Option, Some, None, string_bytes}
use Rattle.regex.specs.declared.string.regex.Regex.{Regex}
use Rattle.nextest_filter_matchers.specs.declared.glob_error.GlobConstructError.{GlobConstructError}
use Rattle.nextest_filter_matchers.specs.declared.glob_error.GlobConstructError.TheVariants.{RegexError}
use Rattle.nextest_filter_matchers.specs.declared.name_matcher.NameMatcher.{NameMatcher}
use Rattle.nextest_filter_matchers.specs.declared.name_matcher.NameMatcher.TheVariants as name

-- the same reason, but for where its text lies in memory
abbrev pub SameError : GlobConstructError → GlobConstructError → Type 0
SameError (RegexError a) (RegexError b) = string_bytes a ≡ string_bytes b
SameError a b = a ≡ b

-- the pattern of a matcher, with what `regex` made of its text
abbrev pub pattern_of : NameMatcher → Option Regex
pattern_of (name.Equal value implicit) = None
pattern_of (name.Contains value implicit) = None
pattern_of (name.Glob glob implicit) = None
pattern_of (name.Regex regex) = Some regex.value
