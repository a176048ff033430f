-- What faults print.
use Rattle.std.specs.Prelude.{ℕ, List, [], ◌++◌, codes}
use Rattle.nextest_filter_tokens.specs.declared.parse_error.ParseSingleError.{ParseSingleError}
use Rattle.nextest_filter_tokens.specs.declared.parse_error.ParseSingleError.TheVariants.{InvalidRegex, InvalidGlob, BannedPredicate, InvalidRegexWithoutMessage, ExpectedCloseRegex, InvalidOrOperator, InvalidAndOperator, UnexpectedArgument, UnexpectedComma, InvalidString, ExpectedOpenParenthesis, ExpectedCloseParenthesis, InvalidEscapeCharacter, ExpectedExpr, ExprFoundBinaryOp, ExprFoundUnaryOp, ExpectedEndOfExpression, NoPackageMatch, NoGroupMatch, NoBinaryIdMatch, NoBinaryNameMatch, NoFeatureMatch, InvalidPlatformArgument, UnsupportedExpression, Unknown}
use Rattle.nextest_filter_tokens.specs.declared.filterset_kind.FiltersetKind.{FiltersetKind}
use Rattle.nextest_filter_tokens.specs.declared.filterset_kind.FiltersetKind.TheVariants as kind
use Rattle.nextest_filter_tokens.specs.declared.filterset_kind.BannedPredicateReason.{BannedPredicateReason}
use Rattle.nextest_filter_tokens.specs.declared.filterset_kind.BannedPredicateReason.TheVariants as reason

-- what a kind prints (from nextest's messages)
abbrev pub kind_text : FiltersetKind → List ℕ
kind_text kind.Test = codes "test"
kind_text kind.TestArchive = codes "archive-filter"
kind_text kind.OverrideFilter = codes "override-filter"
kind_text kind.DefaultFilter = codes "default-filter"

-- what a reason prints (from nextest's messages)
abbrev pub reason_text : BannedPredicateReason → List ℕ
reason_text reason.DefaultInfiniteRecursion = codes "default() causes infinite recursion"
reason_text reason.GroupCircularDependency = codes "group() creates a circular dependency with overrides"
reason_text reason.GroupNotAvailableInDefaultFilter = codes "group() is not available in default-filter expressions"
reason_text reason.GroupNotAvailableInArchive = codes "group() predicates are not supported while archiving"
reason_text reason.TestNotAvailableInArchive = codes "test() predicates are not supported while archiving"

-- the text of a fault that names nothing
abbrev pub plain_text : ParseSingleError → List ℕ
plain_text (InvalidRegex span message) = codes "invalid regex"
plain_text (InvalidGlob span error) = codes "invalid glob"
plain_text (BannedPredicate kind span reason) = []
plain_text (InvalidRegexWithoutMessage span) = codes "invalid regex"
plain_text (ExpectedCloseRegex span) = codes "expected close regex"
plain_text (InvalidOrOperator span) = codes "invalid OR operator"
plain_text (InvalidAndOperator span) = codes "invalid AND operator"
plain_text (UnexpectedArgument span) = codes "unexpected argument"
plain_text (UnexpectedComma span) = codes "unexpected comma"
plain_text (InvalidString span) = codes "invalid string"
plain_text (ExpectedOpenParenthesis span) = codes "expected open parenthesis"
plain_text (ExpectedCloseParenthesis span) = codes "expected close parenthesis"
plain_text (InvalidEscapeCharacter span) = codes "invalid escape character"
plain_text (ExpectedExpr span) = codes "expected expression"
plain_text (ExprFoundBinaryOp op suggest span) = []
plain_text (ExprFoundUnaryOp op suggest span) = []
plain_text (ExpectedEndOfExpression span) = codes "expected end of expression"
plain_text (NoPackageMatch span) = codes "operator didn't match any packages"
plain_text (NoGroupMatch span) = codes "operator didn't match any test groups"
plain_text (NoBinaryIdMatch span) = codes "operator didn't match any binary IDs"
plain_text (NoBinaryNameMatch span) = codes "operator didn't match any binary names"
plain_text (NoFeatureMatch span) = codes "operator didn't match any features"
plain_text (InvalidPlatformArgument span) = codes "invalid argument for platform"
plain_text (UnsupportedExpression span) = codes "unsupported expression"
plain_text Unknown = codes "unknown parsing error"

-- a banned predicate names its kind, and an operator in an operand's place itself (from nextest's messages)
abbrev pub fault_text : ParseSingleError → List ℕ
fault_text (BannedPredicate kind span reason) = codes "predicate not allowed in `" ++ (kind_text kind ++ codes "` expressions")
fault_text (ExprFoundBinaryOp op suggest span) = codes "expected expression, found `" ++ (op.now ++ codes "`")
fault_text (ExprFoundUnaryOp op suggest span) = codes "expected expression, found `" ++ (op.now ++ codes "`")
fault_text fault = plain_text fault
