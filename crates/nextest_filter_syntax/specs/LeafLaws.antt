-- Laws of leaves.
use Rattle.std.specs.Prelude.{◌≡◌, ℕ, ◌<◌, List, is_some, slice_index}
use Rattle.regex.specs.Patterns.{find_str}
use Rattle.regex.specs.Strings.{regex_pattern, regex_source}
use Rattle.regex.specs.declared.string.regex.Regex.{Regex}
use Rattle.nextest_filter_matchers.specs.declared.source_span.SourceSpan.{SourceSpan}
use Rattle.nextest_filter_syntax.specs.Leaves.{Leaf}
use Rattle.nextest_filter_syntax.specs.PatternsAsWritten.{IsAsWritten}
use Rattle.nextest_filter_syntax.specs.LeafGrammar.{ReadsLeaf}

-- from one place on, a leaf is read in one way alone
abbrev pub LeavesReadOnce : Type 0
LeavesReadOnce =
    (text : List ℕ) (i j k : ℕ) (l m : Leaf SourceSpan) → ReadsLeaf text i l j → ReadsLeaf text i m k → (l ≡ m) × (j ≡ k)

-- two patterns that are what `regex` reads in one text are found in the same names
abbrev pub PatternsOfOneTextMatchAlike : Type 0
PatternsOfOneTextMatchAlike =
    (r s : Regex) → IsAsWritten r → IsAsWritten s → regex_source r ≡ regex_source s → (name : List ℕ) → ((k : ℕ) → slice_index name k < 256) → is_some (find_str (regex_pattern r) name 0) ≡ is_some (find_str (regex_pattern s) name 0)
