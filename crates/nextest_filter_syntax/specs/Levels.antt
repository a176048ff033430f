-- The left side of a filter, level by level, and what is printed before and after each level.
use Rattle.std.specs.Prelude.{ℕ, zero, suc, List, [], ◌++◌, codes}
use Rattle.nextest_filter_tokens.specs.Signs.{not_sign, or_sign, and_sign}
use Rattle.nextest_filter_syntax.specs.Trees.{Tree, not_of, union_of, intersection_of, difference_of, parens_of, set_of}
use Rattle.nextest_filter_syntax.specs.TreeTexts.{joined_text, tree_text}

-- the operand on the left; of a leaf the leaf itself
abbrev pub left_of : {S : Type 0} → Tree S → Tree S
left_of (not_of op x) = x
left_of (union_of op x y) = x
left_of (intersection_of op x y) = x
left_of (difference_of x y) = x
left_of (parens_of x) = x
left_of (set_of leaf) = set_of leaf

-- the filter so many levels down
abbrev pub descended : {S : Type 0} → ℕ → Tree S → Tree S
descended zero t = t
descended (suc n) t = descended n (left_of t)

-- what stands before the operand on the left
abbrev pub opening : {S : Type 0} → Tree S → List ℕ
opening (not_of op x) = not_sign op ++ codes " "
opening (union_of op x y) = []
opening (intersection_of op x y) = []
opening (difference_of x y) = []
opening (parens_of x) = codes "("
opening (set_of leaf) = []

-- what stands after it
abbrev pub closing : {S : Type 0} → Tree S → List ℕ
closing (not_of op x) = []
closing (union_of op x y) = joined_text [] (or_sign op) (tree_text y)
closing (intersection_of op x y) = joined_text [] (and_sign op) (tree_text y)
closing (difference_of x y) = joined_text [] (codes "-") (tree_text y)
closing (parens_of x) = codes ")"
closing (set_of leaf) = []

-- what stands before the filter so many levels down
abbrev pub openings : {S : Type 0} → ℕ → Tree S → List ℕ
openings zero t = []
openings (suc n) t = opening t ++ openings n (left_of t)

-- what stands after it
abbrev pub closings : {S : Type 0} → ℕ → Tree S → List ℕ
closings zero t = []
closings (suc n) t = closings n (left_of t) ++ closing t
