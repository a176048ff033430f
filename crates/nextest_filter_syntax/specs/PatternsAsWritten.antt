-- Patterns that `regex` read in their own texts.
use Rattle.std.specs.Prelude.{◌≡◌}
use Rattle.regex.specs.Patterns.{default_config}
use Rattle.regex.specs.Strings.{IsReadFromSource, regex_config}
use Rattle.regex.specs.declared.string.regex.Regex.{Regex}
use Rattle.nextest_filter_matchers.specs.declared.name_matcher.NameMatcher.{NameMatcher}
use Rattle.nextest_filter_matchers.specs.declared.name_matcher.NameMatcher.TheVariants as name
use Rattle.nextest_filter_syntax.specs.declared.parsed_leaf.ParsedLeaf.{ParsedLeaf}
use Rattle.nextest_filter_syntax.specs.declared.parsed_leaf.ParsedLeaf.TheVariants as leaf

-- the pattern is what `regex` reads in its text by the default options
pub record IsAsWritten (pattern : Regex) : Type 0 where
  pub config : regex_config pattern ≡ default_config
  pub read : IsReadFromSource pattern

-- the pattern of a matcher is, if it has one
abbrev pub IsMatcherAsWritten : NameMatcher → Type 0
IsMatcherAsWritten (name.Equal value implicit) = Unit {0}
IsMatcherAsWritten (name.Contains value implicit) = Unit {0}
IsMatcherAsWritten (name.Glob glob implicit) = Unit {0}
IsMatcherAsWritten (name.Regex regex) = IsAsWritten regex.value

-- the pattern of a leaf is, if it has one
abbrev pub IsLeafAsWritten : {S : Type 0} → ParsedLeaf S → Type 0
IsLeafAsWritten (leaf.Package matcher span) = IsMatcherAsWritten matcher
IsLeafAsWritten (leaf.Deps matcher span) = IsMatcherAsWritten matcher
IsLeafAsWritten (leaf.Rdeps matcher span) = IsMatcherAsWritten matcher
IsLeafAsWritten (leaf.Kind matcher span) = IsMatcherAsWritten matcher
IsLeafAsWritten (leaf.Binary matcher span) = IsMatcherAsWritten matcher
IsLeafAsWritten (leaf.BinaryId matcher span) = IsMatcherAsWritten matcher
IsLeafAsWritten (leaf.Platform platform span) = Unit {0}
IsLeafAsWritten (leaf.Test matcher span) = IsMatcherAsWritten matcher
IsLeafAsWritten (leaf.Group matcher span) = IsMatcherAsWritten matcher
IsLeafAsWritten (leaf.Feature matcher span) = IsMatcherAsWritten matcher
IsLeafAsWritten (leaf.Default span) = Unit {0}
IsLeafAsWritten leaf.All = Unit {0}
IsLeafAsWritten leaf.None = Unit {0}
