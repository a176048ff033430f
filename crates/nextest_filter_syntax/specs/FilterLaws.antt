-- Laws of filters.
use Rattle.std.specs.Prelude.{◌≡◌, ℕ, List}
use Rattle.nextest_filter_matchers.specs.declared.source_span.SourceSpan.{SourceSpan}
use Rattle.nextest_filter_syntax.specs.Trees.{Tree}
use Rattle.nextest_filter_syntax.specs.Grammar.{ReadsWhole}

-- no text reads as two trees
abbrev pub TextsReadAsOne : Type 0
TextsReadAsOne = (text : List ℕ) (t u : Tree SourceSpan) → ReadsWhole text t → ReadsWhole text u → t ≡ u
