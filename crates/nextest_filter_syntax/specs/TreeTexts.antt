-- How filters are printed.
use Rattle.std.specs.Prelude.{ℕ, List, ◌++◌, codes}
use Rattle.nextest_filter_tokens.specs.Signs.{not_sign, or_sign, and_sign}
use Rattle.nextest_filter_syntax.specs.LeafTexts.{leaf_text}
use Rattle.nextest_filter_syntax.specs.Trees.{Tree, not_of, union_of, intersection_of, difference_of, parens_of, set_of}

-- two parts, with an operator and blanks between them
abbrev pub joined_text : List ℕ → List ℕ → List ℕ → List ℕ
joined_text left sign right = left ++ (codes " " ++ (sign ++ (codes " " ++ right)))

-- how a filter prints (from nextest's documents)
abbrev pub tree_text : {S : Type 0} → Tree S → List ℕ
tree_text (not_of op x) = not_sign op ++ (codes " " ++ tree_text x)
tree_text (union_of op x y) = joined_text (tree_text x) (or_sign op) (tree_text y)
tree_text (intersection_of op x y) = joined_text (tree_text x) (and_sign op) (tree_text y)
tree_text (difference_of x y) = joined_text (tree_text x) (codes "-") (tree_text y)
tree_text (parens_of x) = codes "(" ++ (tree_text x ++ codes ")")
tree_text (set_of leaf) = leaf_text leaf
