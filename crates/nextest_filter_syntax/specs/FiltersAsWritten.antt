-- Filters whose patterns `regex` read in their own texts.
use Rattle.nextest_filter_syntax.specs.PatternsAsWritten.{IsLeafAsWritten}
use Rattle.nextest_filter_syntax.specs.declared.parsed_expr.ParsedExpr.{ParsedExpr, Not', Union', Intersection', Difference', Parens', Set}

-- each pattern of the filter is what `regex` reads in its text by the default options
abbrev pub IsExprAsWritten : {S : Type 0} → ParsedExpr S → Type 0
IsExprAsWritten (Not' op p x) = IsExprAsWritten x
IsExprAsWritten (Union' op p x q y) = IsExprAsWritten x × IsExprAsWritten y
IsExprAsWritten (Intersection' op p x q y) = IsExprAsWritten x × IsExprAsWritten y
IsExprAsWritten (Difference' op p x q y) = IsExprAsWritten x × IsExprAsWritten y
IsExprAsWritten (Parens' p x) = IsExprAsWritten x
IsExprAsWritten (Set l) = IsLeafAsWritten l
