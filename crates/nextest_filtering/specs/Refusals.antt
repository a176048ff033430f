-- What is answered for a text that is no accepted filter.
use Rattle.std.specs.Prelude.{◌≡◌, ◌⊎◌, ◌<◌, [], length, vec_len, string_bytes}
use Rattle.workspace_record.specs.Records.{Text}
use Rattle.nextest_filter_matchers.specs.declared.source_span.SourceSpan.{SourceSpan}
use Rattle.nextest_filter_tokens.specs.declared.filterset_kind.FiltersetKind.{FiltersetKind}
use Rattle.nextest_filter_tokens.specs.FaultLists.{AreWithin}
use Rattle.nextest_filter_syntax.specs.FiltersAsWritten.{IsExprAsWritten}
use Rattle.nextest_filter_syntax.specs.Trees.{tree_of}
use Rattle.nextest_filter_syntax.specs.Grammar.{ReadsWhole}
use Rattle.nextest_filter_syntax.specs.Parsing.{AreFaultsOf}
use Rattle.nextest_filter_syntax.specs.declared.parsing.ParseExprError.TheVariants as unread
use Rattle.nextest_filter_syntax.specs.declared.parsed_expr.ParsedExpr.{ParsedExpr}
use Rattle.nextest_filter_evaluation.specs.declared.groups.KnownGroups.{KnownGroups}
use Rattle.nextest_filtering.specs.Contexts.{ContextValue}
use Rattle.nextest_filtering.specs.Filters.{filter_of}
use Rattle.nextest_filtering.specs.Acceptance.{AreUnmatched, IsAccepted, bans}
use Rattle.nextest_filtering.specs.declared.refusals.FiltersetParseErrors.{FiltersetParseErrors}
use Rattle.nextest_filtering.specs.declared.refusals.FiltersetError.{FiltersetError}
use Rattle.nextest_filtering.specs.declared.refusals.FiltersetError.TheVariants.{Parse, Memory}

module _ (cx : ContextValue) (groups : KnownGroups) (kind : FiltersetKind) where
  -- a filter is read that is not accepted: its faults lie within the text, and are its bans, or else those of its leaves that match nothing
  pub record IsRefused (text : Text) (refused : FiltersetParseErrors) : Type 0 where
    pub parsed : ParsedExpr SourceSpan
    pub reads : ReadsWhole text (tree_of parsed)
    pub as_written : IsExprAsWritten parsed
    pub not_accepted : IsAccepted cx groups kind (filter_of parsed) → ⊥
    pub some : 0 < vec_len refused.errors
    pub within : AreWithin (length text) refused.errors.items
    pub faults : (refused.errors.items ≡ bans kind (filter_of parsed)) ⊎ ((bans kind (filter_of parsed) ≡ []) × AreUnmatched cx groups (filter_of parsed) refused.errors.items)

  -- the text comes back with faults of its reading, or a filter was read that is not accepted (from nextest)
  abbrev pub IsRefusal : Text → FiltersetError → Type 0
  IsRefusal text (Parse refused) =
      (string_bytes refused.input ≡ text) × (AreFaultsOf text (unread.Faults refused.errors) ⊎ IsRefused text refused)
  IsRefusal text Memory = Unit {0}
