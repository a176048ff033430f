-- The leaves of a filter that can be told only at run time.
use Rattle.std.specs.Prelude.{◌≡◌, List, [], ◌∷◌, ◌++◌, if◌then◌else◌, map, reverse}
use Rattle.std.specs.Borrow.{Bor}
use Rattle.nextest_filter_syntax.specs.declared.parsed_leaf.ParsedLeaf.{ParsedLeaf}
use Rattle.nextest_filter_syntax.specs.Leaves.{Leaf, is_runtime_leaf, leaf_of}
use Rattle.nextest_filter_syntax.specs.Trees.{Tree, not_of, union_of, intersection_of, difference_of, parens_of, set_of}

-- from left to right
abbrev pub runtime_leaves : {S : Type 0} → Tree S → List (Leaf S)
runtime_leaves (not_of op x) = runtime_leaves x
runtime_leaves (union_of op x y) = runtime_leaves x ++ runtime_leaves y
runtime_leaves (intersection_of op x y) = runtime_leaves x ++ runtime_leaves y
runtime_leaves (difference_of x y) = runtime_leaves x ++ runtime_leaves y
runtime_leaves (parens_of x) = runtime_leaves x
runtime_leaves (set_of leaf) = if is_runtime_leaf leaf then leaf ∷ [] else []

-- the leaves that are lent, the last one first
abbrev pub last_first : {S : Type 0} → List (Bor (ParsedLeaf S)) → List (Leaf S)
last_first leaves = map (λ l. leaf_of l.now) (reverse leaves)

-- the leaves of a filter are added to those before, from right to left
abbrev pub AddsLeaves : {S : Type 0} → Tree S → List (Bor (ParsedLeaf S)) → List (Bor (ParsedLeaf S)) → Type 0
AddsLeaves t before after = last_first after ≡ runtime_leaves t ++ last_first before
