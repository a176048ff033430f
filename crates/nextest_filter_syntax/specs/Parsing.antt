-- What the faults of a refused text say.
use Rattle.std.specs.Prelude.{◌≡◌, ◌↔◌, ℕ, ◌<◌, List, length, vec_len}
use Rattle.nextest_filter_matchers.specs.declared.source_span.SourceSpan.{SourceSpan}
use Rattle.nextest_filter_tokens.specs.declared.parse_error.ParseSingleError.{ParseSingleError}
use Rattle.nextest_filter_tokens.specs.FaultLists.{AreOver, AreSomeOf, AreWithin, pattern_faults, pattern_spans, syntax_faults}
use Rattle.nextest_filter_syntax.specs.Trees.{Tree}
use Rattle.nextest_filter_syntax.specs.Grammar.{ReadsWhole, tree_places}
use Rattle.nextest_filter_syntax.specs.declared.parsing.ParseExprError.{ParseExprError}
use Rattle.nextest_filter_syntax.specs.declared.parsing.ParseExprError.TheVariants.{Faults, Memory}

-- the grammar reads a tree
abbrev pub ReadsSome : List ℕ → Type 0
ReadsSome text = (t : Tree SourceSpan) × ReadsWhole text t

-- where the grammar reads a tree, the refused patterns are some of the tree's, from left to right
abbrev pub AreOfTree : List ℕ → List ParseSingleError → Type 0
AreOfTree text faults = (t : Tree SourceSpan) → ReadsWhole text t → AreSomeOf (pattern_spans faults) (tree_places text t)

-- there are faults, which lie within the text; they are of refused patterns alone exactly if the grammar reads a tree
abbrev pub AreFaultsOf : List ℕ → ParseExprError → Type 0
AreFaultsOf text (Faults faults) =
    (0 < vec_len faults) × AreWithin (length text) faults.items × AreOver text faults.items × AreOfTree text faults.items × (syntax_faults faults.items ≡ 0 ↔ ReadsSome text) × (ReadsSome text → 0 < pattern_faults faults.items)
AreFaultsOf text Memory = Unit {0}
