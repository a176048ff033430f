-- The grammar of filters, between two places of a text.
use Rattle.std.specs.Prelude.{◌≡◌, ◌++◌, ℕ, zero, suc, List, length}
use Rattle.nextest_filter_matchers.specs.declared.source_span.SourceSpan.{SourceSpan}
use Rattle.nextest_filter_tokens.specs.declared.operator_signs.NotOperator.{NotOperator}
use Rattle.nextest_filter_tokens.specs.Bytes.{skip}
use Rattle.nextest_filter_tokens.specs.Heads.{head_at}
use Rattle.nextest_filter_tokens.specs.Operators.{and_at, or_at}
use Rattle.nextest_filter_tokens.specs.declared.heads.Head.TheVariants.{Negates, Opens}
use Rattle.nextest_filter_tokens.specs.declared.operators.Operator.{Operator}
use Rattle.nextest_filter_tokens.specs.declared.operators.Operator.TheVariants.{Or, And, Minus}
use Rattle.nextest_filter_tokens.specs.declared.operators.Found.{Found}
use Rattle.nextest_filter_tokens.specs.declared.operators.Found.TheVariants.{Nothing, Joins}
use Rattle.nextest_filter_syntax.specs.Leaves.{Leaf}
use Rattle.nextest_filter_syntax.specs.LeafGrammar.{ReadsLeaf, Stands, leaf_places}
use Rattle.nextest_filter_syntax.specs.Trees.{Tree, not_of, union_of, intersection_of, difference_of, parens_of, set_of}

-- two trees, joined by the operator between them
abbrev pub joined_of : Operator → Tree SourceSpan → Tree SourceSpan → Tree SourceSpan
joined_of (Or op) a b = union_of op a b
joined_of (And op) a b = intersection_of op a b
joined_of Minus a b = difference_of a b

-- what stands in the place of an operator that joins parts of a level: operands by intersections and differences, and these by unions
abbrev pub found_at : List ℕ → ℕ → ℕ → Found
found_at text zero i = and_at text i
found_at text (suc zero) i = or_at text i
found_at text (suc (suc level)) i = Nothing

-- parts of level 0 are operands, those of level 1 are operands joined by intersections and differences, and those of level 2 are these, joined by unions; as many parentheses and negations may stand inside each other as there is room for
-- (from nextest's reference of filtersets)
mutual
  pub data Reads (text : List ℕ) : ℕ → ℕ → ℕ → Tree SourceSpan → ℕ → Type 0 where
    leaf : {room i j : ℕ} {l : Leaf SourceSpan} → ReadsLeaf text (skip text i) l j → Reads text room 0 i (set_of l) j
    negated : {room i m j : ℕ} {op : NotOperator} {x : Tree SourceSpan} → head_at text (skip text i) ≡ Negates op m → Reads text room 0 m x j → Reads text (suc room) 0 i (not_of op x) j
    parens : {room i m k j : ℕ} {x : Tree SourceSpan} → head_at text (skip text i) ≡ Opens m → Reads text room 2 m x k → Stands text k 41 j → Reads text (suc room) 0 i (parens_of x) j
    chain : {room level i m j : ℕ} {a t : Tree SourceSpan} → Reads text room level i a m → MoreOf text room level m a t j → Reads text room (suc level) i t j

  -- from the place after the tree a on, further parts, which join it from left to right (from nextest's reference of filtersets)
  pub data MoreOf (text : List ℕ) : ℕ → ℕ → ℕ → Tree SourceSpan → Tree SourceSpan → ℕ → Type 0 where
    none : {room level k : ℕ} {a : Tree SourceSpan} → MoreOf text room level k a a k
    one : {room level k m n j : ℕ} {op : Operator} {a b t : Tree SourceSpan} → found_at text level (skip text k) ≡ Joins op m → Reads text room level m b n → MoreOf text room level n (joined_of op a b) t j → MoreOf text room level k a t j

-- where the patterns of a tree lie, from left to right
abbrev pub tree_places : List ℕ → Tree SourceSpan → List SourceSpan
tree_places text (not_of op t) = tree_places text t
tree_places text (union_of op a b) = tree_places text a ++ tree_places text b
tree_places text (intersection_of op a b) = tree_places text a ++ tree_places text b
tree_places text (difference_of a b) = tree_places text a ++ tree_places text b
tree_places text (parens_of t) = tree_places text t
tree_places text (set_of l) = leaf_places text l

-- the whole text is a filter, with at most 256 parentheses and negations inside each other
-- (from nextest's reference of filtersets)
abbrev pub ReadsWhole : List ℕ → Tree SourceSpan → Type 0
ReadsWhole text t = (j : ℕ) × Reads text 256 2 0 t j × (skip text j ≡ length text)
