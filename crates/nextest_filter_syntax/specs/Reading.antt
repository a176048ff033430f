-- What clauses see of trees that are being read.
use Rattle.std.specs.Prelude.{◌≡◌, ℕ, ◌<◌, Bool, true, false, List, Option, Some, None, IfSome}
use Rattle.nextest_filter_matchers.specs.declared.source_span.SourceSpan.{SourceSpan}
use Rattle.nextest_filter_tokens.specs.declared.operator_signs.NotOperator.{NotOperator}
use Rattle.nextest_filter_tokens.specs.Bytes.{skip}
use Rattle.nextest_filter_tokens.specs.FaultLists.{pattern_spans}
use Rattle.nextest_filter_tokens.specs.ReadingSteps.{RefusesSomeOf}
use Rattle.nextest_filter_tokens.specs.declared.fault_list.FaultList.{FaultList}
use Rattle.nextest_filter_tokens.specs.declared.operators.Found.{Found}
use Rattle.nextest_filter_tokens.specs.declared.operators.Found.TheVariants.{Nothing, Joins, Wrong}
use Rattle.nextest_filter_syntax.specs.Leaves.{leaf_of}
use Rattle.nextest_filter_syntax.specs.declared.parsed_leaf.ParsedLeaf.{ParsedLeaf}
use Rattle.nextest_filter_syntax.specs.declared.parsed_expr.ParsedExpr.{ParsedExpr}
use Rattle.nextest_filter_syntax.specs.Trees.{Tree, not_of, parens_of, set_of, tree_of}
use Rattle.nextest_filter_syntax.specs.Grammar.{Reads, found_at, joined_of, tree_places}

-- no operator of a lower level stands after the place
abbrev pub Ends : List ℕ → ℕ → ℕ → Type 0
Ends text level j = (k : ℕ) → k < level → found_at text k (skip text j) ≡ Nothing

-- the tree of an expression, unless it is spoiled
abbrev pub part_of : Option (ParsedExpr SourceSpan) → Option (Tree SourceSpan)
part_of (Some x) = Some (tree_of x)
part_of None = None

-- the tree is that of an expression, unless it is spoiled
abbrev pub IsTree : Option (ParsedExpr SourceSpan) → Tree SourceSpan → Type 0
IsTree part t = IfSome part (λ x. tree_of x ≡ t)

-- between two places a tree is read, and it is that of the expression, unless it is spoiled; the patterns that were refused on the way are some of the tree's
abbrev pub IsReading : List ℕ → ℕ → ℕ → ℕ → Option (ParsedExpr SourceSpan) → ℕ → FaultList → FaultList → Type 0
IsReading text room level i part j before after =
    (t : Tree SourceSpan) × Reads text room level i t j × IsTree part t × RefusesSomeOf (tree_places text t) (pattern_spans before.list.items) (pattern_spans after.list.items)

abbrev pub leaf_part : Option (ParsedLeaf SourceSpan) → Option (Tree SourceSpan)
leaf_part (Some l) = Some (set_of (leaf_of l))
leaf_part None = None

abbrev pub negated_part : NotOperator → Option (Tree SourceSpan) → Option (Tree SourceSpan)
negated_part op (Some x) = Some (not_of op x)
negated_part op None = None

abbrev pub parens_part : Option (Tree SourceSpan) → Option (Tree SourceSpan)
parens_part (Some x) = Some (parens_of x)
parens_part None = None

-- two parts, joined by what stands between them
abbrev pub joined_part : Found → Option (Tree SourceSpan) → Option (Tree SourceSpan) → Option (Tree SourceSpan)
joined_part (Joins op m) (Some a) (Some b) = Some (joined_of op a b)
joined_part _ _ _ = None

abbrev pub is_wrong : Found → Bool
is_wrong (Wrong m) = true
is_wrong _ = false

-- the place after an operator, if one stands there
abbrev pub place_of : Found → Option ℕ
place_of (Joins op m) = Some m
place_of (Wrong m) = Some m
place_of Nothing = None
