-- Filters as propositions over what they name. Parentheses only group, and a difference is the left part without the right one.
use Rattle.nextest_filter_matchers.specs.declared.source_span.SourceSpan.{SourceSpan}
use Rattle.nextest_binaries.specs.declared.build_platform.BuildPlatform.{BuildPlatform}
use Rattle.nextest_filter_tokens.specs.declared.heads.Predicate.{Predicate}
use Rattle.nextest_filter_tokens.specs.declared.heads.Predicate.TheVariants as names
use Rattle.nextest_filter_syntax.specs.declared.parsed_leaf.ParsedLeaf.{ParsedLeaf}
use Rattle.nextest_filter_syntax.specs.declared.parsed_leaf.ParsedLeaf.TheVariants as code
use Rattle.nextest_filter_syntax.specs.declared.parsed_expr.ParsedExpr.{ParsedExpr, Not', Union', Intersection', Difference', Parens', Set}
use Rattle.nextest_filter_evaluation.specs.NameTests.{NameTest, name_test}
use Rattle.nextest_filter_evaluation.specs.Formulas.{Formula, negation, either, both, leaf}

-- what a filter names, and where in its text
pub data FilterLeaf : Type 0 where
  Named : Predicate → NameTest → SourceSpan → FilterLeaf
  Platform : BuildPlatform → SourceSpan → FilterLeaf
  Default : SourceSpan → FilterLeaf
  All : FilterLeaf
  None : FilterLeaf

abbrev pub filter_leaf : ParsedLeaf SourceSpan → FilterLeaf
filter_leaf (code.Package matcher span) = Named names.Package (name_test matcher) span
filter_leaf (code.Deps matcher span) = Named names.Deps (name_test matcher) span
filter_leaf (code.Rdeps matcher span) = Named names.Rdeps (name_test matcher) span
filter_leaf (code.Kind matcher span) = Named names.Kind (name_test matcher) span
filter_leaf (code.Binary matcher span) = Named names.Binary (name_test matcher) span
filter_leaf (code.BinaryId matcher span) = Named names.BinaryId (name_test matcher) span
filter_leaf (code.Platform platform span) = Platform platform span
filter_leaf (code.Test matcher span) = Named names.Test (name_test matcher) span
filter_leaf (code.Group matcher span) = Named names.Group (name_test matcher) span
filter_leaf (code.Feature matcher span) = Named names.Feature (name_test matcher) span
filter_leaf (code.Default span) = Default span
filter_leaf code.All = All
filter_leaf code.None = None

-- what a filter says over a context (from nextest's filtersets)
abbrev pub filter_of : ParsedExpr SourceSpan → Formula FilterLeaf
filter_of (Not' op p x) = negation (filter_of x)
filter_of (Union' op p x q y) = either (filter_of x) (filter_of y)
filter_of (Intersection' op p x q y) = both (filter_of x) (filter_of y)
filter_of (Difference' op p x q y) = both (filter_of x) (negation (filter_of y))
filter_of (Parens' p x) = filter_of x
filter_of (Set l) = leaf (filter_leaf l)
