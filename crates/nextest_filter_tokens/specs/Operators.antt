-- The operators of filter texts, by their places.
use Rattle.std.specs.Prelude.{ℕ, ◌+◌, List, codes, if◌then◌else◌}
use Rattle.nextest_filter_tokens.specs.declared.operator_signs.OrOperator.TheVariants.{LiteralOr, Pipe, Plus}
use Rattle.nextest_filter_tokens.specs.declared.operator_signs.AndOperator.TheVariants.{LiteralAnd, Ampersand}
use Rattle.nextest_filter_tokens.specs.Bytes.{IsEnd, has_word, has_whole_word}
use Rattle.nextest_filter_tokens.specs.declared.operators.Operator.TheVariants.{Or, And, Minus}
use Rattle.nextest_filter_tokens.specs.declared.operators.Found.{Found}
use Rattle.nextest_filter_tokens.specs.declared.operators.Found.TheVariants.{Nothing, Joins, Wrong}

-- an operator of unions, or what is written for one wrongly, with the place after it (from nextest's documents)
unfoldable pub or_at : List ℕ → ℕ → Found
or_at text i =
    if has_word text i (codes "||") then Wrong (i + 2) else (if has_whole_word text i (codes "OR") then Wrong (i + 2) else (if has_whole_word text i (codes "or") then Joins (Or LiteralOr) (i + 2) else (if has_word text i (codes "|") then Joins (Or Pipe) (i + 1) else (if has_word text i (codes "+") then Joins (Or Plus) (i + 1) else Nothing))))

-- an operator of intersections or differences, or what is written for one wrongly (from nextest's documents)
unfoldable pub and_at : List ℕ → ℕ → Found
and_at text i =
    if has_word text i (codes "&&") then Wrong (i + 2) else (if has_whole_word text i (codes "AND") then Wrong (i + 3) else (if has_whole_word text i (codes "and") then Joins (And LiteralAnd) (i + 3) else (if has_word text i (codes "&") then Joins (And Ampersand) (i + 1) else (if has_word text i (codes "-") then Joins Minus (i + 1) else Nothing))))

-- an operator ends within the text, where it may be cut
abbrev pub FoundEndsWithin : List ℕ → ℕ → Found → Type 0
FoundEndsWithin text i (Joins op j) = IsEnd text i j
FoundEndsWithin text i (Wrong j) = IsEnd text i j
FoundEndsWithin text i Nothing = Unit {0}
