-- Compiled filters as plain values.
use Rattle.std.specs.Prelude.{Bool, true, false, List}
use Rattle.workspace_record.specs.Records.{Text}
use Rattle.nextest_filter_matchers.specs.declared.source_span.SourceSpan.{SourceSpan}
use Rattle.nextest_binaries.specs.declared.build_platform.BuildPlatform.{BuildPlatform}
use Rattle.nextest_filter_evaluation.specs.NameTests.{NameTest, is_pattern, name_test}
use Rattle.nextest_filter_evaluation.specs.Formulas.{Formula, negation, either, both, leaf}
use Rattle.nextest_filter_evaluation.specs.declared.filterset_leaf.FiltersetLeaf.{FiltersetLeaf}
use Rattle.nextest_filter_evaluation.specs.declared.filterset_leaf.FiltersetLeaf.TheVariants as code
use Rattle.nextest_filter_evaluation.specs.declared.compiled_expr.CompiledExpr.{CompiledExpr, Not', Union', Intersection', Set}

-- a set of tests: of packages by their ids, of binaries by their kind, platform, name or id, by their own names, of groups, of the default filter, all or none
pub data Leaf : Type 0 where
  Packages : List Text → Leaf
  Kind : NameTest → SourceSpan → Leaf
  Platform : BuildPlatform → SourceSpan → Leaf
  Binary : NameTest → SourceSpan → Leaf
  BinaryId : NameTest → SourceSpan → Leaf
  Test : NameTest → SourceSpan → Leaf
  Group : NameTest → SourceSpan → Leaf
  Default : Leaf
  All : Leaf
  None : Leaf

abbrev pub leaf_of : FiltersetLeaf → Leaf
leaf_of (code.Packages ids) = Packages ids.keys
leaf_of (code.Kind matcher span) = Kind (name_test matcher) span
leaf_of (code.Platform platform span) = Platform platform span
leaf_of (code.Binary matcher span) = Binary (name_test matcher) span
leaf_of (code.BinaryId matcher span) = BinaryId (name_test matcher) span
leaf_of (code.Test matcher span) = Test (name_test matcher) span
leaf_of (code.Group matcher span) = Group (name_test matcher) span
leaf_of code.Default = Default
leaf_of code.All = All
leaf_of code.None = None

-- a compiled filter as a plain value (from nextest)
abbrev pub compiled_of : CompiledExpr → Formula Leaf
compiled_of (Not' p x) = negation (compiled_of x)
compiled_of (Union' p x q y) = either (compiled_of x) (compiled_of y)
compiled_of (Intersection' p x q y) = both (compiled_of x) (compiled_of y)
compiled_of (Set l) = leaf (leaf_of l)

-- the left side's operators, from the inside out, around a part
abbrev pub turned_over : CompiledExpr → Formula Leaf → Formula Leaf
turned_over (Not' p x) f = turned_over x (negation f)
turned_over (Union' p x q y) f = turned_over x (either f (compiled_of y))
turned_over (Intersection' p x q y) f = turned_over x (both f (compiled_of y))
turned_over (Set l) f = f

abbrev pub is_group : Leaf → Bool
is_group (Group test span) = true
is_group _ = false

abbrev pub is_default : Leaf → Bool
is_default Default = true
is_default _ = false

-- the leaf can be told only of a test, or only at run time
abbrev pub is_runtime_only : Leaf → Bool
is_runtime_only (Test test span) = true
is_runtime_only (Group test span) = true
is_runtime_only Default = true
is_runtime_only _ = false

-- the leaf has a pattern, whose search takes memory
abbrev pub has_pattern : Leaf → Bool
has_pattern (Kind test span) = is_pattern test
has_pattern (Binary test span) = is_pattern test
has_pattern (BinaryId test span) = is_pattern test
has_pattern (Test test span) = is_pattern test
has_pattern _ = false
