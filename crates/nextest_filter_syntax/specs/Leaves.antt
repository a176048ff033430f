-- The leaves of filters.
use Rattle.std.specs.Prelude.{Bool, true, false, Option, None as Nothing, List, option_to_list}
use Rattle.regex.specs.declared.string.regex.Regex.{Regex}
use Rattle.nextest_filter_matchers.specs.Copies.{pattern_of}
use Rattle.nextest_filter_matchers.specs.Matchers.{Matcher, matcher_of}
use Rattle.nextest_binaries.specs.declared.build_platform.BuildPlatform.{BuildPlatform}
use Rattle.nextest_filter_tokens.specs.declared.heads.Predicate.{Predicate}
use Rattle.nextest_filter_tokens.specs.declared.heads.Predicate.TheVariants.{Package, Deps, Rdeps, Kind, Binary, BinaryId, Test, Group, Feature}
use Rattle.nextest_filter_syntax.specs.declared.parsed_leaf.ParsedLeaf.{ParsedLeaf}
use Rattle.nextest_filter_syntax.specs.declared.parsed_leaf.ParsedLeaf.TheVariants as leaf
use Rattle.nextest_filter_syntax.specs.declared.parsed_leaf.Parts.{Parts}
use Rattle.nextest_filter_syntax.specs.declared.parsed_leaf.Parts.TheVariants as parts

pub data Leaf (S : Type 0) : Type 0 where
  Named : Predicate → Matcher → S → Leaf S
  Platform : BuildPlatform → S → Leaf S
  Default : S → Leaf S
  All : Leaf S
  None : Leaf S

-- a leaf as a plain value (from nextest's documents)
abbrev pub leaf_of : {S : Type 0} → ParsedLeaf S → Leaf S
leaf_of (leaf.Package matcher span) = Named Package (matcher_of matcher) span
leaf_of (leaf.Deps matcher span) = Named Deps (matcher_of matcher) span
leaf_of (leaf.Rdeps matcher span) = Named Rdeps (matcher_of matcher) span
leaf_of (leaf.Kind matcher span) = Named Kind (matcher_of matcher) span
leaf_of (leaf.Binary matcher span) = Named Binary (matcher_of matcher) span
leaf_of (leaf.BinaryId matcher span) = Named BinaryId (matcher_of matcher) span
leaf_of (leaf.Platform platform span) = Platform platform span
leaf_of (leaf.Test matcher span) = Named Test (matcher_of matcher) span
leaf_of (leaf.Group matcher span) = Named Group (matcher_of matcher) span
leaf_of (leaf.Feature matcher span) = Named Feature (matcher_of matcher) span
leaf_of (leaf.Default span) = Default span
leaf_of leaf.All = All
leaf_of leaf.None = None

-- the pattern of a leaf, with what `regex` made of its text
abbrev pub leaf_pattern : {S : Type 0} → ParsedLeaf S → Option Regex
leaf_pattern (leaf.Package matcher span) = pattern_of matcher
leaf_pattern (leaf.Deps matcher span) = pattern_of matcher
leaf_pattern (leaf.Rdeps matcher span) = pattern_of matcher
leaf_pattern (leaf.Kind matcher span) = pattern_of matcher
leaf_pattern (leaf.Binary matcher span) = pattern_of matcher
leaf_pattern (leaf.BinaryId matcher span) = pattern_of matcher
leaf_pattern (leaf.Platform platform span) = Nothing
leaf_pattern (leaf.Test matcher span) = pattern_of matcher
leaf_pattern (leaf.Group matcher span) = pattern_of matcher
leaf_pattern (leaf.Feature matcher span) = pattern_of matcher
leaf_pattern (leaf.Default span) = Nothing
leaf_pattern leaf.All = Nothing
leaf_pattern leaf.None = Nothing

-- patterns, with what `regex` made of their texts
abbrev pub Patterns : Type 0
Patterns = List Regex

-- the patterns of a leaf: one or none
abbrev pub leaf_patterns : {S : Type 0} → ParsedLeaf S → Patterns
leaf_patterns l = option_to_list (leaf_pattern l)

-- the pattern among the parts of a leaf
abbrev pub parts_pattern : {S : Type 0} → Parts S → Option Regex
parts_pattern (parts.Named predicate matcher span) = pattern_of matcher.now
parts_pattern _ = Nothing

-- the leaf whose parts they are
abbrev pub leaf_of_parts : {S : Type 0} → Parts S → Leaf S
leaf_of_parts (parts.Named predicate matcher span) = Named predicate (matcher_of matcher.now) span.now
leaf_of_parts (parts.Platform platform span) = Platform platform span.now
leaf_of_parts (parts.Default span) = Default span.now
leaf_of_parts parts.All = All
leaf_of_parts parts.None = None

abbrev pub is_runtime_predicate : Predicate → Bool
is_runtime_predicate Test = true
is_runtime_predicate Group = true
is_runtime_predicate Package = false
is_runtime_predicate Deps = false
is_runtime_predicate Rdeps = false
is_runtime_predicate Kind = false
is_runtime_predicate Binary = false
is_runtime_predicate BinaryId = false
is_runtime_predicate Feature = false

-- the leaf can be told only of a test, or only at run time
abbrev pub is_runtime_leaf : {S : Type 0} → Leaf S → Bool
is_runtime_leaf (Named predicate matcher span) = is_runtime_predicate predicate
is_runtime_leaf (Platform platform span) = false
is_runtime_leaf (Default span) = true
is_runtime_leaf All = false
is_runtime_leaf None = false
