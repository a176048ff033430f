-- Where faults lie.
use Rattle.std.specs.Prelude.{Bool, true, false}
use Rattle.nextest_filter_matchers.specs.declared.source_span.SourceSpan.{SourceSpan}
use Rattle.nextest_filter_tokens.specs.declared.parse_error.ParseSingleError.{ParseSingleError}
use Rattle.nextest_filter_tokens.specs.declared.parse_error.ParseSingleError.TheVariants.{InvalidRegex, InvalidGlob, BannedPredicate, ExprFoundBinaryOp, ExprFoundUnaryOp, Unknown, InvalidRegexWithoutMessage, ExpectedCloseRegex, InvalidOrOperator, InvalidAndOperator, UnexpectedArgument, UnexpectedComma, InvalidString, ExpectedOpenParenthesis, ExpectedCloseParenthesis, InvalidEscapeCharacter, ExpectedExpr, ExpectedEndOfExpression, NoPackageMatch, NoGroupMatch, NoBinaryIdMatch, NoBinaryNameMatch, NoFeatureMatch, InvalidPlatformArgument, UnsupportedExpression}

-- where a fault lies
abbrev pub span_of : ParseSingleError → SourceSpan
span_of (InvalidRegex span message) = span
span_of (InvalidGlob span error) = span
span_of (BannedPredicate kind span reason) = span
span_of (ExprFoundBinaryOp op suggest span) = span
span_of (ExprFoundUnaryOp op suggest span) = span
span_of Unknown = record { offset = 0; len = 0 }
span_of (InvalidRegexWithoutMessage span) = span
span_of (ExpectedCloseRegex span) = span
span_of (InvalidOrOperator span) = span
span_of (InvalidAndOperator span) = span
span_of (UnexpectedArgument span) = span
span_of (UnexpectedComma span) = span
span_of (InvalidString span) = span
span_of (ExpectedOpenParenthesis span) = span
span_of (ExpectedCloseParenthesis span) = span
span_of (InvalidEscapeCharacter span) = span
span_of (ExpectedExpr span) = span
span_of (ExpectedEndOfExpression span) = span
span_of (NoPackageMatch span) = span
span_of (NoGroupMatch span) = span
span_of (NoBinaryIdMatch span) = span
span_of (NoBinaryNameMatch span) = span
span_of (NoFeatureMatch span) = span
span_of (InvalidPlatformArgument span) = span
span_of (UnsupportedExpression span) = span

-- the fault says that a pattern was refused
abbrev pub is_pattern_fault : ParseSingleError → Bool
is_pattern_fault (InvalidRegexWithoutMessage span) = true
is_pattern_fault _ = false
