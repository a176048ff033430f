-- Compiled filters of a record, and what is said of the record.
use Rattle.std.proofs.Common.{◌≡◌, refl, sym, subst, ℕ, false, List, All, Option, Some, None, inl, inr, take, length, get_or, slice_get, Vec, ◌+◌, ◌<◌, ◌∷◌, ◌++◌, [], map, Err}
use Rattle.std.specs.Global.{Global}
use Rattle.list_facts.proofs.Quantifiers.{All-from_Contains}
use Rattle.workspace_record.specs.Records.{Text, Group, Workspace}
use Rattle.nextest_filter_tokens.specs.declared.filterset_kind.FiltersetKind.TheVariants.{OverrideFilter, DefaultFilter}
use Rattle.nextest_filter_tokens.specs.declared.parse_error.ParseSingleError.{ParseSingleError}
use Rattle.nextest_filter_evaluation.specs.declared.groups.KnownGroups.TheVariants.{Unavailable}
use Rattle.nextest_filter_evaluation.specs.Compiled.{Leaf, is_default, is_group}
use Rattle.nextest_filter_evaluation.specs.Formulas.{Formula, has_leaf}
use Rattle.nextest_filtering.specs.Contexts.{ContextValue}
use Rattle.nextest_filtering.specs.Refusals.{IsRefusal}
use Rattle.nextest_filtering.specs.declared.refusals.FiltersetError.{FiltersetError}
use Rattle.nextest_filtering.specs.declared.refusals.FiltersetError.TheVariants as filterset
use Rattle.nextest_filtering.proofs.ContextFacts.{map-append}
use Rattle.nextest_filtering.proofs.PickFacts.{one_more}
use Rattle.test_select_checks.specs.Alike.{AreAlike}
use Rattle.test_select_checks.specs.CompiledViews.{group_view}
use Rattle.test_select_checks.specs.Compiling.{AnswersFilters, CompilesDefault, CompilesGroup, CompilesGroups}
use Rattle.test_select_checks.specs.Contexts.{HasNamesOf}
use Rattle.test_select_checks.specs.Errors.{record_error_of}
use Rattle.test_select_checks.specs.FilterTexts.{IsRefusedText}
use Rattle.test_select_checks.specs.RecordFilters.{CompiledFilters, HasAcceptedFilter, IsAcceptedDefault, IsCompiledGroup, IsCompiledDefault, IsRefusedDefault, AreCompiledOf, HasAcceptedFilters, RefusesFilter, RefusesGroup}
use Rattle.test_select_checks.specs.declared.filter_parts.GroupFilter.{GroupFilter}
use Rattle.test_select_checks.specs.declared.record_error.RecordError.{RecordError}
use Rattle.test_select_checks.specs.declared.record_error.RecordError.TheVariants.{Broken, Filter, Memory}
use Rattle.test_select_checks.proofs.AlikeFacts.{alike_more, alike_there}
use Rattle.test_select_checks.proofs.BanFacts.{no_default, no_group}

module _ (cx : ContextValue) where
  pub accepted_groups : (groups : List Group) (filters : List (Text × Formula Leaf)) → AreAlike (IsCompiledGroup cx) groups filters → All (HasAcceptedFilter cx) groups
  accepted_groups groups filters h =
      All-from_Contains (HasAcceptedFilter cx) groups (λ g i. let f = alike_there (IsCompiledGroup cx) groups filters g h i in (f.2.compiled.filter, f.2.compiled.accepted))

  accepted_default : (text : Option Text) (c : Formula Leaf) → IsCompiledDefault cx text c → IsAcceptedDefault cx text
  accepted_default (Some text) c h = (h.filter, h.accepted)
  accepted_default None c h = tt

  -- the filters of a record that were compiled are accepted
  pub filters_accepted : (w : Workspace) (filters : CompiledFilters) → HasNamesOf w cx → AreCompiledOf cx w filters → HasAcceptedFilters w
  filters_accepted w filters names h =
      (cx, names, record { groups = accepted_groups w.groups filters.groups h.groups; default = accepted_default w.default_filter filters.default h.default })

  -- a compiled default filter names neither itself nor groups
  pub default_names_no_default : (text : Option Text) (c : Formula Leaf) → IsCompiledDefault cx text c → has_leaf is_default c ≡ false
  default_names_no_default (Some text) c h = no_default cx Unavailable h.filter c h.compiled h.accepted.accepted
  default_names_no_default None c h = rw h refl

  pub default_names_no_group : (text : Option Text) (c : Formula Leaf) → IsCompiledDefault cx text c → has_leaf is_group c ≡ false
  default_names_no_group (Some text) c h = no_group cx Unavailable h.filter c h.compiled h.accepted.accepted
  default_names_no_group None c h = rw h refl

  -- the default filter is refused behind the groups
  pub refuses_default : (w : Workspace) (filters : List (Text × Formula Leaf)) (place : ℕ) (faults : Vec ParseSingleError Global) → HasNamesOf w cx → AreAlike (IsCompiledGroup cx) w.groups filters → place ≡ length w.groups → IsRefusedDefault cx w.default_filter faults → RefusesFilter w place faults
  refuses_default w filters place faults names h at refused = (cx, names, inr (record { groups = accepted_groups w.groups filters h; at = at; refused = refused }))

  pub refuses_group : (w : Workspace) (place : ℕ) (faults : Vec ParseSingleError Global) → HasNamesOf w cx → RefusesGroup cx w.groups place faults → RefusesFilter w place faults
  refuses_group w place faults names h = (cx, names, inl h)

  -- the group at the place is refused, where those before it were compiled
  pub group_refused : (groups : List Group) (filters : List (Text × Formula Leaf)) (place at : ℕ) (g : Group) (faults : Vec ParseSingleError Global) → AreAlike (IsCompiledGroup cx) (take place groups) filters → slice_get groups place ≡ Some g → at ≡ place → IsRefusedText cx Unavailable OverrideFilter g.filter faults → RefusesGroup cx groups at faults
  group_refused groups filters place at g faults before here same refused =
      subst (λ p. RefusesGroup cx groups p faults) (sym same) (record { before = accepted_groups (take place groups) filters before; group = g; at = here; refused = refused })

  -- the filter of one more group was compiled
  pub groups_more : (groups : List Group) (i : ℕ) (d g : Group) (old new : List GroupFilter) (f : GroupFilter) → i < length groups → g ≡ get_or groups i d → new ≡ old ++ f ∷ [] → AreAlike (IsCompiledGroup cx) (take i groups) (map group_view old) → IsCompiledGroup cx g (group_view f) → AreAlike (IsCompiledGroup cx) (take (i + 1) groups) (map group_view new)
  groups_more groups i d g old new f lt at grown was one =
      rw (grown, one_more groups i d g lt at, map-append group_view old (f ∷ [])) (alike_more (IsCompiledGroup cx) (take i groups) (map group_view old) g (group_view f) was one)

  -- the refusal of a group's filter
  pub group_error : (place : ℕ) (g : Group) (text : Text) (refused : FiltersetError) (e : RecordError) → text ≡ g.filter → e ≡ record_error_of place refused → IsRefusal cx Unavailable OverrideFilter text refused → CompilesGroup cx place g (Err e)
  group_error place g text (filterset.Parse r) e same is h =
      subst (λ x. CompilesGroup cx place g (Err x)) (sym is) (refl, (r.input, subst (λ t. IsRefusal cx Unavailable OverrideFilter t (filterset.Parse r)) same h))
  group_error place g text filterset.Memory e same is h = subst (λ x. CompilesGroup cx place g (Err x)) (sym is) tt

  -- the refusal of the default filter
  pub default_error : (w : Workspace) (text : Text) (place : ℕ) (refused : FiltersetError) (e : RecordError) → w.default_filter ≡ Some text → place ≡ length w.groups → e ≡ record_error_of place refused → IsRefusal cx Unavailable DefaultFilter text refused → CompilesDefault cx w (Err e)
  default_error w text place (filterset.Parse r) e given behind is h =
      subst (λ x. CompilesDefault cx w (Err x)) (sym is) (behind, subst (λ o. IsRefusedDefault cx o r.errors) (sym given) (r.input, h))
  default_error w text place filterset.Memory e given behind is h = subst (λ x. CompilesDefault cx w (Err x)) (sym is) tt

  -- what a refused group's filter is among the groups, and a refused default filter of the record
  pub group_err : (groups : List Group) (filters : List (Text × Formula Leaf)) (place : ℕ) (g : Group) (e : RecordError) → AreAlike (IsCompiledGroup cx) (take place groups) filters → slice_get groups place ≡ Some g → CompilesGroup cx place g (Err e) → CompilesGroups cx groups (Err e)
  group_err groups filters place g (Broken rule p) before here h = h
  group_err groups filters place g (Filter p errors) before here h = group_refused groups filters place p g errors before here h.0 h.1
  group_err groups filters place g Memory before here h = tt

  pub default_err : {A : Type 0} (right : A → Type 0) (w : Workspace) (groups : List Group) (filters : List (Text × Formula Leaf)) (e : RecordError) → HasNamesOf w cx → groups ≡ w.groups → AreAlike (IsCompiledGroup cx) groups filters → CompilesDefault cx w (Err e) → AnswersFilters right w (Err e)
  default_err right w groups filters (Broken rule p) names same before h = absurd h
  default_err right w groups filters (Filter p errors) names same before h = refuses_default w filters p errors names (subst (λ gs. AreAlike (IsCompiledGroup cx) gs filters) same before) h.0 h.1
  default_err right w groups filters Memory names same before h = tt
