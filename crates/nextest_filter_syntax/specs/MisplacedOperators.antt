-- Operators that stand in an operand's place.
use Rattle.std.specs.Prelude.{Bool, true, false, List, ℕ, Option, Some, None, codes}
use Rattle.nextest_filter_tokens.specs.declared.parse_error.ParseSingleError.{ParseSingleError}
use Rattle.nextest_filter_tokens.specs.declared.parse_error.ParseSingleError.TheVariants.{ExprFoundBinaryOp, ExprFoundUnaryOp}
use Rattle.nextest_filter_tokens.specs.declared.heads.WrongOperator.{WrongOperator}
use Rattle.nextest_filter_tokens.specs.declared.heads.WrongOperator.TheVariants.{LowerAnd, LowerOr, UpperAnd, UpperOr, DoubleAmpersand, DoublePipe, UpperNot}

-- an operator that was found: whether it is a unary one, how it is written, and how it is rightly written
pub record Found : Type 0 where
  pub is_unary : Bool
  pub written : List ℕ
  pub rightly : List ℕ

-- what a fault says was found
abbrev pub found_in : ParseSingleError → Option Found
found_in (ExprFoundBinaryOp op suggest span) = Some (record { is_unary = false; written = op.now; rightly = suggest.now })
found_in (ExprFoundUnaryOp op suggest span) = Some (record { is_unary = true; written = op.now; rightly = suggest.now })
found_in _ = None

-- what the operator is
abbrev pub found_as : WrongOperator → Found
found_as LowerAnd = record { is_unary = false; written = codes "and"; rightly = codes "and" }
found_as LowerOr = record { is_unary = false; written = codes "or"; rightly = codes "or" }
found_as UpperAnd = record { is_unary = false; written = codes "AND"; rightly = codes "and" }
found_as UpperOr = record { is_unary = false; written = codes "OR"; rightly = codes "or" }
found_as DoubleAmpersand = record { is_unary = false; written = codes "&&"; rightly = codes "&" }
found_as DoublePipe = record { is_unary = false; written = codes "||"; rightly = codes "|" }
found_as UpperNot = record { is_unary = true; written = codes "NOT"; rightly = codes "not" }
