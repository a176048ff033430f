-- What the filter for changed packages takes.
use Rattle.std.specs.Prelude.{◌≡◌, ◌≢◌, ◌↔◌, Bool, List, [], All, Contains, IsTrue}
use Rattle.workspace_record.specs.Records.{Text}
use Rattle.nextest_filter_matchers.specs.declared.source_span.SourceSpan.{SourceSpan}
use Rattle.nextest_filter_syntax.specs.Grammar.{ReadsWhole}
use Rattle.nextest_filter_syntax.specs.Trees.{Tree, tree_of}
use Rattle.nextest_filter_syntax.specs.TreeTexts.{tree_text}
use Rattle.nextest_filter_syntax.specs.declared.parsed_expr.ParsedExpr.{ParsedExpr}
use Rattle.nextest_filter_laws.specs.Laws.{bare}
use Rattle.nextest_filter_evaluation.specs.NameTests.{NameTest}
use Rattle.nextest_filter_evaluation.specs.Formulas.{Holds}
use Rattle.nextest_binaries.specs.Queries as asked
use Rattle.nextest_filtering.specs.Contexts.{ContextValue, Leads}
use Rattle.nextest_filtering.specs.Filters.{filter_of}
use Rattle.nextest_filtering.specs.Meaning.{FilterLeafHolds}
use Rattle.test_select_changes.specs.ChangedFilters.{dependents_of_all}

-- a filter for what depends on packages of these names, none of which is empty
pub record IsForDependents (names : List Text) (filter : ParsedExpr SourceSpan) : Type 0 where
  pub named : All (λ name. name ≢ []) names
  pub tree : bare (tree_of filter) ≡ dependents_of_all names

-- its text reads as that filter, but for spans
abbrev pub ChangedFiltersReadBack : Type 0
ChangedFiltersReadBack =
    (names : List Text) (filter : ParsedExpr SourceSpan) → IsForDependents names filter →
    (t : Tree SourceSpan) × ReadsWhole (tree_text (tree_of filter)) t × (bare t ≡ dependents_of_all names)

-- a package of the context has the id, and a path leads from it to a package of the context with one of these names
pub record IsDependentOn (cx : ContextValue) (names : List Text) (id : Text) : Type 0 where
  pub own : Text
  pub listed : Contains cx.packages (id, own)
  pub name : Text
  pub named : Contains names name
  pub changed : Text
  pub is_changed : Contains cx.packages (changed, name)
  pub leads : Leads cx.graph id changed

-- whatever its text reads as takes exactly the tests of such packages: from the package of a test that it does not take no path leads to a changed one
abbrev pub DependentsAreTaken : Type 0
DependentsAreTaken =
    (names : List Text) (filter parsed : ParsedExpr SourceSpan) → IsForDependents names filter →
    ReadsWhole (tree_text (tree_of filter)) (tree_of parsed) →
    (cx : ContextValue) (member : NameTest → Bool) (default : Bool) (t : asked.Test) →
    Holds (FilterLeafHolds cx (λ m. IsTrue (member m)) (IsTrue default) t) (filter_of parsed) ↔ IsDependentOn cx names t.binary.package_id
