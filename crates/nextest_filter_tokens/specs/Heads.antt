-- What an operand begins with, by its place.
use Rattle.std.specs.Prelude.{ℕ, ◌+◌, List, codes, if◌then◌else◌}
use Rattle.nextest_filter_tokens.specs.declared.operator_signs.NotOperator.TheVariants.{LiteralNot, Exclamation}
use Rattle.nextest_filter_tokens.specs.Bytes.{IsEnd, has_word, has_whole_word}
use Rattle.nextest_filter_tokens.specs.declared.heads.Predicate.TheVariants.{Package, Deps, Rdeps, Kind, Binary, BinaryId, Test, Group, Feature}
use Rattle.nextest_filter_tokens.specs.declared.heads.Nullary.TheVariants.{Default, All, None}
use Rattle.nextest_filter_tokens.specs.declared.heads.WrongOperator.TheVariants.{LowerAnd, LowerOr, UpperAnd, UpperOr, DoubleAmpersand, DoublePipe, UpperNot}
use Rattle.nextest_filter_tokens.specs.declared.heads.Head.{Head}
use Rattle.nextest_filter_tokens.specs.declared.heads.Head.TheVariants.{Names, Platform, Says, Negates, Opens, Misplaces, Unknown}

-- an operator that stands in an operand's place
unfoldable pub misplaced_at : List ℕ → ℕ → Head
misplaced_at text i =
    if has_whole_word text i (codes "and") then Misplaces LowerAnd (i + 3) else (if has_whole_word text i (codes "or") then Misplaces LowerOr (i + 2) else (if has_whole_word text i (codes "AND") then Misplaces UpperAnd (i + 3) else (if has_whole_word text i (codes "OR") then Misplaces UpperOr (i + 2) else (if has_word text i (codes "&&") then Misplaces DoubleAmpersand (i + 2) else (if has_word text i (codes "||") then Misplaces DoublePipe (i + 2) else (if has_whole_word text i (codes "NOT") then Misplaces UpperNot (i + 3) else Unknown))))))

-- a negation or a parenthesis, or else what is misplaced
unfoldable pub sign_at : List ℕ → ℕ → Head
sign_at text i =
    if has_whole_word text i (codes "not") then Negates LiteralNot (i + 3) else (if has_word text i (codes "!") then Negates Exclamation (i + 1) else (if has_word text i (codes "(") then Opens (i + 1) else misplaced_at text i))

-- a set without a matcher, or else a sign
unfoldable pub plain_set_at : List ℕ → ℕ → Head
plain_set_at text i =
    if has_word text i (codes "platform") then Platform (i + 8) else (if has_word text i (codes "default") then Says Default (i + 7) else (if has_word text i (codes "all") then Says All (i + 3) else (if has_word text i (codes "none") then Says None (i + 4) else sign_at text i)))

-- what an operand begins with, and the place after it; `binary_id` is tried before `binary` (from nextest's documents)
unfoldable pub head_at : List ℕ → ℕ → Head
head_at text i =
    if has_word text i (codes "package") then Names Package (i + 7) else (if has_word text i (codes "deps") then Names Deps (i + 4) else (if has_word text i (codes "rdeps") then Names Rdeps (i + 5) else (if has_word text i (codes "kind") then Names Kind (i + 4) else (if has_word text i (codes "binary_id") then Names BinaryId (i + 9) else (if has_word text i (codes "binary") then Names Binary (i + 6) else (if has_word text i (codes "test") then Names Test (i + 4) else (if has_word text i (codes "group") then Names Group (i + 5) else (if has_word text i (codes "feature") then Names Feature (i + 7) else plain_set_at text i))))))))

-- what an operand begins with ends within the text, where it may be cut
abbrev pub HeadEndsWithin : List ℕ → ℕ → Head → Type 0
HeadEndsWithin text i (Names predicate j) = IsEnd text i j
HeadEndsWithin text i (Platform j) = IsEnd text i j
HeadEndsWithin text i (Says word j) = IsEnd text i j
HeadEndsWithin text i (Negates op j) = IsEnd text i j
HeadEndsWithin text i (Opens j) = IsEnd text i j
HeadEndsWithin text i (Misplaces op j) = IsEnd text i j
HeadEndsWithin text i Unknown = Unit {0}
