-- Texts and the filters that they read as, and which texts are accepted.
use Rattle.std.specs.Prelude.{◌≡◌, Vec, String}
use Rattle.std.specs.Global.{Global}
use Rattle.workspace_record.specs.Records.{Text}
use Rattle.nextest_filter_matchers.specs.declared.source_span.SourceSpan.{SourceSpan}
use Rattle.nextest_filter_tokens.specs.declared.filterset_kind.FiltersetKind.{FiltersetKind}
use Rattle.nextest_filter_tokens.specs.declared.parse_error.ParseSingleError.{ParseSingleError}
use Rattle.nextest_filter_syntax.specs.FiltersAsWritten.{IsExprAsWritten}
use Rattle.nextest_filter_syntax.specs.Grammar.{ReadsWhole}
use Rattle.nextest_filter_syntax.specs.Trees.{tree_of}
use Rattle.nextest_filter_syntax.specs.declared.parsed_expr.ParsedExpr.{ParsedExpr}
use Rattle.nextest_filter_evaluation.specs.declared.groups.KnownGroups.{KnownGroups}
use Rattle.nextest_filter_evaluation.specs.Compiled.{Leaf}
use Rattle.nextest_filter_evaluation.specs.Formulas.{Formula}
use Rattle.nextest_filtering.specs.Acceptance.{IsAccepted}
use Rattle.nextest_filtering.specs.Compiling.{IsCompiled}
use Rattle.nextest_filtering.specs.Contexts.{ContextValue}
use Rattle.nextest_filtering.specs.Filters.{FilterLeaf, filter_of}
use Rattle.nextest_filtering.specs.Refusals.{IsRefusal}
use Rattle.nextest_filtering.specs.declared.refusals.FiltersetError.TheVariants.{Parse}

-- the text reads as the filter, whose patterns are what their texts say (from nextest's filtersets)
pub record IsFilterOf (text : Text) (f : Formula FilterLeaf) : Type 0 where
  pub parsed : ParsedExpr SourceSpan
  pub reads : ReadsWhole text (tree_of parsed)
  pub as_written : IsExprAsWritten parsed
  pub is_filter : f ≡ filter_of parsed

module _ (cx : ContextValue) (groups : KnownGroups) (kind : FiltersetKind) where
  -- the text reads as the filter, which is accepted where filters of the kind stand
  pub record IsAcceptedAs (text : Text) (f : Formula FilterLeaf) : Type 0 where
    pub of_text : IsFilterOf text f
    pub accepted : IsAccepted cx groups kind f

  -- the text reads as some filter that is accepted (from nextest's filtersets)
  abbrev pub IsAcceptedText : Text → Type 0
  IsAcceptedText text = (f : Formula FilterLeaf) × IsAcceptedAs text f

  -- the text is refused for these faults (from nextest's filtersets)
  abbrev pub IsRefusedText : Text → Vec ParseSingleError Global → Type 0
  IsRefusedText text faults = (input : String Global) × IsRefusal cx groups kind text (Parse (record { input = input; errors = faults }))

  -- the compiled filter is that of the text, which is accepted
  pub record IsCompiledText (text : Text) (c : Formula Leaf) : Type 0 where
    pub filter : Formula FilterLeaf
    pub accepted : IsAcceptedAs text filter
    pub compiled : IsCompiled cx filter c
