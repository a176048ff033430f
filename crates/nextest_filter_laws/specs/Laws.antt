-- Laws of filters that are printed.
use Rattle.std.specs.Prelude.{◌≡◌}
use Rattle.nextest_filter_matchers.specs.declared.source_span.SourceSpan.{SourceSpan}
use Rattle.nextest_filter_syntax.specs.Leaves.{Leaf, Named, Platform, Default, All, None}
use Rattle.nextest_filter_syntax.specs.declared.parsed_expr.ParsedExpr.{ParsedExpr}
use Rattle.nextest_filter_syntax.specs.Trees.{Tree, not_of, union_of, intersection_of, difference_of, parens_of, set_of, tree_of}
use Rattle.nextest_filter_syntax.specs.TreeTexts.{tree_text}
use Rattle.nextest_filter_syntax.specs.Grammar.{ReadsWhole}
use Rattle.nextest_filter_laws.specs.Printable.{IsPrintable}

-- a leaf without its span
abbrev pub bare_leaf : {S : Type 0} → Leaf S → Leaf (Unit {0})
bare_leaf (Named predicate matcher span) = Named predicate matcher tt
bare_leaf (Platform platform span) = Platform platform tt
bare_leaf (Default span) = Default tt
bare_leaf All = All
bare_leaf None = None

-- a tree without its spans
abbrev pub bare : {S : Type 0} → Tree S → Tree (Unit {0})
bare (not_of op x) = not_of op (bare x)
bare (union_of op x y) = union_of op (bare x) (bare y)
bare (intersection_of op x y) = intersection_of op (bare x) (bare y)
bare (difference_of x y) = difference_of (bare x) (bare y)
bare (parens_of x) = parens_of (bare x)
bare (set_of leaf) = set_of (bare_leaf leaf)

-- what is printed of a printable filter reads as that filter, but for its spans
abbrev pub PrintedFiltersReadBack : Type 0
PrintedFiltersReadBack =
    (x : ParsedExpr SourceSpan) → IsPrintable (tree_of x) → (t : Tree SourceSpan) × ReadsWhole (tree_text (tree_of x)) t × (bare t ≡ bare (tree_of x))
