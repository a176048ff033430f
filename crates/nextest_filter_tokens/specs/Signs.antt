-- How operators are written.
use Rattle.std.specs.Prelude.{ℕ, List, codes}
use Rattle.nextest_filter_tokens.specs.declared.operator_signs.NotOperator.{NotOperator}
use Rattle.nextest_filter_tokens.specs.declared.operator_signs.NotOperator.TheVariants.{LiteralNot, Exclamation}
use Rattle.nextest_filter_tokens.specs.declared.operator_signs.OrOperator.{OrOperator}
use Rattle.nextest_filter_tokens.specs.declared.operator_signs.OrOperator.TheVariants.{LiteralOr, Pipe, Plus}
use Rattle.nextest_filter_tokens.specs.declared.operator_signs.AndOperator.{AndOperator}
use Rattle.nextest_filter_tokens.specs.declared.operator_signs.AndOperator.TheVariants.{LiteralAnd, Ampersand}

abbrev pub not_sign : NotOperator → List ℕ
not_sign LiteralNot = codes "not"
not_sign Exclamation = codes "!"

abbrev pub or_sign : OrOperator → List ℕ
or_sign LiteralOr = codes "or"
or_sign Pipe = codes "|"
or_sign Plus = codes "+"

abbrev pub and_sign : AndOperator → List ℕ
and_sign LiteralAnd = codes "and"
and_sign Ampersand = codes "&"
