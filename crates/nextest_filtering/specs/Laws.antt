-- Laws of compiled filters.
use Rattle.std.specs.Prelude.{◌↔◌, Bool, IsTrue}
use Rattle.nextest_filter_matchers.specs.declared.source_span.SourceSpan.{SourceSpan}
use Rattle.nextest_filter_syntax.specs.FiltersAsWritten.{IsExprAsWritten}
use Rattle.nextest_filter_syntax.specs.Grammar.{ReadsWhole}
use Rattle.nextest_filter_syntax.specs.Trees.{tree_of}
use Rattle.nextest_filter_syntax.specs.TreeTexts.{tree_text}
use Rattle.nextest_filter_syntax.specs.declared.parsed_expr.ParsedExpr.{ParsedExpr}
use Rattle.nextest_filter_laws.specs.Printable.{IsPrintable}
use Rattle.nextest_filter_evaluation.specs.NameTests.{NameTest}
use Rattle.nextest_binaries.specs.Queries as asked
use Rattle.nextest_filter_evaluation.specs.Formulas.{Formula, Holds, SomeAnswersGive}
use Rattle.nextest_filter_evaluation.specs.Compiled.{Leaf}
use Rattle.nextest_filter_evaluation.specs.Meaning.{LeafHolds, LeafGives}
use Rattle.nextest_filtering.specs.Contexts.{ContextValue}
use Rattle.nextest_filtering.specs.Filters.{FilterLeaf, filter_of}
use Rattle.nextest_filtering.specs.Meaning.{FilterLeafHolds, FilterLeafGives}
use Rattle.nextest_filtering.specs.Compiling.{IsCompiled}
use Rattle.nextest_filtering.specs.SameFilters.{SaysTheSame}

-- a compiled filter holds of the tests of which the filter holds that it is made of, whatever is said of groups and of the default filter
abbrev pub CompiledHoldTheSame : Type 0
CompiledHoldTheSame =
    (cx : ContextValue) (f : Formula FilterLeaf) (c : Formula Leaf) → IsCompiled cx f c → (member : NameTest → Bool) (default : Bool) (t : asked.Test) →
    Holds (LeafHolds (λ m. IsTrue (member m)) (IsTrue default) t) c ↔ Holds (FilterLeafHolds cx (λ m. IsTrue (member m)) (IsTrue default) t) f

-- and some answers give it the values that some give to that filter
abbrev pub CompiledGiveTheSame : Type 0
CompiledGiveTheSame =
    (cx : ContextValue) (f : Formula FilterLeaf) (c : Formula Leaf) → IsCompiled cx f c → (default : Bool → Bool) (b : asked.Binary) (v : Bool) →
    SomeAnswersGive (LeafGives (λ x. IsTrue (default x)) b) c v ↔ SomeAnswersGive (FilterLeafGives cx (λ x. IsTrue (default x)) b) f v

-- a printable filter and what is read of its printed text say the same, where the patterns of both are what their texts say
abbrev pub PrintedFiltersSayTheSame : Type 0
PrintedFiltersSayTheSame =
    (x y : ParsedExpr SourceSpan) → IsPrintable (tree_of x) → ReadsWhole (tree_text (tree_of x)) (tree_of y) → IsExprAsWritten x → IsExprAsWritten y → SaysTheSame (filter_of x) (filter_of y)
