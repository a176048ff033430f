-- What compiling the filters of a record comes to.
use Rattle.std.specs.Prelude.{◌≡◌, ℕ, List, Some, Result, Ok, Err, Vec, length, map}
use Rattle.std.specs.Global.{Global}
use Rattle.workspace_record.specs.Records.{Group, Workspace}
use Rattle.nextest_filter_evaluation.specs.Compiled.{compiled_of}
use Rattle.nextest_filter_evaluation.specs.declared.compiled_expr.CompiledExpr.{CompiledExpr}
use Rattle.nextest_filter_tokens.specs.declared.filterset_kind.FiltersetKind.TheVariants.{OverrideFilter}
use Rattle.nextest_filter_evaluation.specs.declared.groups.KnownGroups.TheVariants.{Unavailable}
use Rattle.nextest_filtering.specs.Contexts.{ContextValue}
use Rattle.test_select_rules.specs.RecordRules.{fault_of}
use Rattle.test_select_checks.specs.Alike.{AreAlike}
use Rattle.test_select_checks.specs.FilterTexts.{IsRefusedText}
use Rattle.test_select_checks.specs.RecordFilters.{HasAcceptedFilters, RefusesFilter, RefusesGroup, IsRefusedDefault, IsCompiledGroup, IsCompiledDefault}
use Rattle.test_select_checks.specs.CompiledViews.{group_view}
use Rattle.test_select_checks.specs.declared.filter_parts.GroupFilter.{GroupFilter}
use Rattle.test_select_checks.specs.declared.record_error.RecordError.{RecordError}
use Rattle.test_select_checks.specs.declared.record_error.RecordError.TheVariants.{Broken, Filter, Memory}

-- what is answered is right, or the record is refused: for a broken rule, or for a filter
abbrev pub AnswersFilters : {A : Type 0} → (A → Type 0) → Workspace → Result A RecordError → Type 0
AnswersFilters right w (Ok answer) = right answer
AnswersFilters right w (Err (Broken rule place)) = fault_of w ≡ Some (rule, place)
AnswersFilters right w (Err (Filter place errors)) = RefusesFilter w place errors
AnswersFilters right w (Err Memory) = Unit {0}

-- whether the filters of the record are accepted
abbrev pub ChecksFilters : Workspace → Result (Unit {0}) RecordError → Type 0
ChecksFilters w = AnswersFilters (λ _. HasAcceptedFilters w) w

module _ (cx : ContextValue) where
  -- the filters of the groups, compiled, or the first one that is refused
  abbrev pub CompilesGroups : List Group → Result (Vec GroupFilter Global) RecordError → Type 0
  CompilesGroups groups (Ok filters) = AreAlike (IsCompiledGroup cx) groups (map group_view filters.items)
  CompilesGroups groups (Err (Broken rule place)) = ⊥
  CompilesGroups groups (Err (Filter place errors)) = RefusesGroup cx groups place errors
  CompilesGroups groups (Err Memory) = Unit {0}

  -- the filter of the group at the place
  abbrev pub CompilesGroup : ℕ → Group → Result GroupFilter RecordError → Type 0
  CompilesGroup place g (Ok filter) = IsCompiledGroup cx g (group_view filter)
  CompilesGroup place g (Err (Broken rule p)) = ⊥
  CompilesGroup place g (Err (Filter p errors)) = (p ≡ place) × IsRefusedText cx Unavailable OverrideFilter g.filter errors
  CompilesGroup place g (Err Memory) = Unit {0}

  -- the default filter
  abbrev pub CompilesDefault : Workspace → Result CompiledExpr RecordError → Type 0
  CompilesDefault w (Ok filter) = IsCompiledDefault cx w.default_filter (compiled_of filter)
  CompilesDefault w (Err (Broken rule p)) = ⊥
  CompilesDefault w (Err (Filter p errors)) = (p ≡ length w.groups) × IsRefusedDefault cx w.default_filter errors
  CompilesDefault w (Err Memory) = Unit {0}
